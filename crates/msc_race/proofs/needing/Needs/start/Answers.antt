use Rattle.std.proofs.Common.{◌≡◌, length, subst, arith}
use Rattle.msc_race.specs.Choices.{wired_chart}
use Rattle.msc_race.specs.PastEvents.{IsToldTo}
use Rattle.msc_race.proofs.Pasts.TurnLemmas.{told_more}
use Rattle.msc_race.proofs.needing.Needs.start.Goals as goal

pub overflow_cast-q-end : goal.overflow_cast-q-end
overflow_cast-q-end c =
    let holds = c.in_ok-needs.ensures.holds in
    omega (arith, holds.nexts, holds.spans.few, c.in_ok-needs.needs.nexts.ok.0, c.len-q-end.ensures)

pub turn-requires-clause-queue : goal.turn-requires-clause-queue
turn-requires-clause-queue c = rw c.loop-q.invariant.count c.loop-q-test.true

pub loop-q-init : goal.loop-q-init
loop-q-init c =
    let holds = c.in_ok-needs.ensures.holds in
    record {
      told = c.in_ok-needs.ensures;
      count = omega (arith, holds.nexts, c.in_ok-needs.needs.nexts.ok.0, c.len-q-end.ensures);
    }

pub loop-q-preserved : goal.loop-q-preserved
loop-q-preserved c =
    let choice = c.args.choice.now in
    let told = c.loop-q.invariant.told in
    record {
      told = record {
        holds = c.turn.ensures.holds;
        nexts = c.turn.ensures.nexts;
        ready = told_more (wired_chart choice) choice.e c.loop-q.needs.needed told.holds.needed c.args.left.now c.loop-q.q
            c.loop-q.needs.ready c.turn.new.self.ready told.ready c.turn.ensures.ready;
      };
      count = rw c.turn.ensures.spans c.loop-q.invariant.count;
    }

pub returns : goal.returns
returns c =
    let count = c.loop-q.invariant.count in
    let all : c.loop-q.q ≡ length c.loop-q.needs.spans.firsts.items = omega (arith, count, c.loop-q-test.false, c.loop-q.auto.q-end) in
    subst (λ k. IsToldTo c.args.choice.now c.loop-q.needs c.args.left.now k) all c.loop-q.invariant.told

use Rattle.std.proofs.Common.{length, inl}
use Rattle.msc_ready.specs.Held.{wiring_of, ready_in}
use Rattle.msc_ready.specs.Running.{IsBlockedPairNext}
use Rattle.msc_ready.proofs.Shared.{before_parts, Steps-push}
use Rattle.msc_ready.proofs.Begun.Toward.{comes_so, none_sent, sent_after, less_after, blocked_pair_run}
use Rattle.msc_ready.proofs.ready.Ready.blocked_pair_run.Goals as goal

pub loop-x-init : goal.loop-x-init
loop-x-init c =
    let r = c.args.self.now in
    record {
      held = c.in_ok-beginning.ensures.held;
      witness = rw c.in_ok-beginning.ensures.none tt;
      sent = rw c.in_ok-beginning.ensures.none (none_sent (wiring_of r) (ready_in r) c.other_end-t.result);
    }

pub loop-x-preserved : goal.loop-x-preserved
loop-x-preserved c =
    let r = c.args.self.now in
    let run = c.loop-x.beginning.run.items in
    let next = c.in-Some.ensures.some in
    let comes = comes_so (wiring_of r) (ready_in r) c.other_end-t.result run c.in-Some.x next in
    record {
      held = c.in_ok-occur.ensures.held;
      witness = rw c.in_ok-occur.ensures.run (Steps-push (IsBlockedPairNext (wiring_of r) (ready_in r) c.other_end-t.result) run c.in-Some.x c.loop-x.invariant.witness (inl next));
      sent = sent_after (wiring_of r) (ready_in r) c.other_end-t.result run c.occur.new.self.run.items c.in-Some.x c.loop-x.invariant.sent comes c.in_ok-occur.ensures.run;
    }

pub loop-x-smaller : goal.loop-x-smaller
loop-x-smaller c =
    let r = c.args.self.now in
    let run = c.loop-x.beginning.run.items in
    let may = (comes_so (wiring_of r) (ready_in r) c.other_end-t.result run c.in-Some.x c.in-Some.ensures.some).0 in
    less_after (length r.chart.events) run c.occur.new.self.run.items c.in-Some.x may.may.event may.may.new c.in_ok-occur.ensures.run

pub occur-requires-clause-next : goal.occur-requires-clause-next
occur-requires-clause-next c =
    let r = c.args.self.now in
    (comes_so (wiring_of r) (ready_in r) c.other_end-t.result c.loop-x.beginning.run.items c.in-Some.x c.in-Some.ensures.some).0

pub returns : goal.returns
returns c =
    let r = c.args.self.now in
    let is_wired = c.ends_share_queues.ensures r.queues r.chart c.facts.ensures.chart in
    let is = rw c.chart.ensures at c.other_end-t.ensures.value in
    let there = c.in_default.ensures.none c.args.e c.args.f c.requires is c.loop-x.invariant.sent in
    let done = c.in_ok-finish.ensures in
    blocked_pair_run (wiring_of r) is_wired (ready_in r) c.args.e c.args.f c.other_end-t.result c.requires is c.loop-x.beginning.run.items c.finish.new.self.run.items
    c.loop-x.invariant.sent there done.longer done.held.is_run done.none (done.witness c.other_end-t.result there c.loop-x.invariant.witness)

pub other_end-t-requires : goal.other_end-t-requires
other_end-t-requires c =
    let below = (before_parts c.args.self.now.chart.events c.args.e c.args.f c.requires.blocked_pair.drawn).1 in
    rw c.chart.ensures below

use Rattle.std.proofs.Common.{◌≡◌, None}
use Rattle.msc_race.specs.Beginnings.{run_of}
use Rattle.msc_race.specs.Views.{wiring_of}
use Rattle.msc_race.proofs.Making.ChoiceLemmas.{witness_less}
use Rattle.msc_race.proofs.enforced.Enforced.witness_run.Goals as goal

pub occur-requires-clause-next : goal.occur-requires-clause-next
occur-requires-clause-next c = c.in-Some.ensures.some _ c.loop-x.invariant

pub loop-x-smaller : goal.loop-x-smaller
loop-x-smaller c =
    let next = c.in-Some.ensures.some _ c.loop-x.invariant in
    witness_less (wiring_of c.args.self.now) c.args.e (run_of c.loop-x.beginning) (run_of c.occur.new.self) c.in-Some.x
    (rw (c.wiring.ensures.chart, c.wiring.ensures.queues) at next) c.in_ok-occur.ensures.run

pub returns : goal.returns
returns c =
    let none : c.next.result ≡ None = search in
    let steps = c.loop-x.invariant.kept.steps in
    let whole = c.next.ensures.none _ c.loop-x.invariant in
    let last = rw none at whole in
    rw c.into_run.ensures (rw (c.wiring.ensures.chart, c.wiring.ensures.queues) at steps, rw c.wiring.ensures.chart at last)

use Rattle.std.proofs.Common.{◌≡◌, arith}
use Rattle.msc_race.specs.Choices.{event_count, wired_chart}
use Rattle.msc_race.specs.Short.{IsNeeded}
use Rattle.msc_race.proofs.Making.RemainderLemmas.{below_all}
use Rattle.msc_race.proofs.Pasts.ShortSteps.{needed_below}
use Rattle.msc_race.proofs.needing.needed_set.Goals as goal

pub returns-clause-needed : goal.returns-clause-needed
returns-clause-needed c =
    let choice = c.args.choice.now in
    let is_wired = c.ends_share_queues.ensures choice.wiring.queues choice.wiring.chart.now c.requires.accepted in
    let last : c.loop-x.x ≡ event_count choice = omega (arith, c.loop-x-test.false, c.loop-x.auto.x-end, c.events-events.ensures.number) in
    below_all _ (IsNeeded (wired_chart choice) choice.e) (event_count choice) (rw last at c.loop-x.invariant.below)
    (needed_below (wired_chart choice) is_wired choice.e c.requires.known)

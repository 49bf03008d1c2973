use Rattle.std.proofs.Common.{◌≡◌, arith}
use Rattle.msc_race.specs.Choices.{event_count, wired_chart}
use Rattle.msc_race.specs.PastEvents.{IsUnheldFor}
use Rattle.msc_race.proofs.Making.RemainderLemmas.{below_all, below_with}
use Rattle.msc_race.proofs.Making.RowLemmas.{row_same}
use Rattle.msc_race.proofs.Pasts.ShortSteps.{needed_below}
use Rattle.msc_race.proofs.needing.unheld_set.Goals as goal

pub loop-x-preserved : goal.loop-x-preserved
loop-x-preserved c =
    let choice = c.args.choice.now in
    record {
      row = row_same (event_count choice) c.loop-x.set c.put_where.new.self c.put_where.ensures.words c.loop-x.invariant.row;
      below = below_with c.loop-x.set c.put_where.new.self (IsUnheldFor (wired_chart choice) choice.e) c.loop-x.x c.is_unheld.result
          c.loop-x.invariant.below c.put_where.ensures.numbers c.is_unheld.ensures;
    }

pub returns-clause-unheld : goal.returns-clause-unheld
returns-clause-unheld c =
    let choice = c.args.choice.now in
    let is_wired = c.ends_share_queues.ensures choice.wiring.queues choice.wiring.chart.now c.requires.settled.accepted in
    let last : c.loop-x.x ≡ event_count choice = omega (arith, c.loop-x-test.false, c.loop-x.auto.x-end, c.events-events.ensures.number) in
    below_all _ (IsUnheldFor (wired_chart choice) choice.e) (event_count choice) (rw last at c.loop-x.invariant.below)
    (λ y unheld. needed_below (wired_chart choice) is_wired choice.e c.requires.settled.known y unheld.0)

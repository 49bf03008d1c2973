use Rattle.msc_race.specs.Choices.{event_count, wired_chart}
use Rattle.msc_race.specs.Remainders.{HoldsBelow}
use Rattle.msc_race.specs.Rows.{IsRow}
use Rattle.msc_race.specs.PastEvents.{IsUnheldFor}
use Rattle.msc_race.proofs.needing.unheld_set.Given as goal

abbrev pub invariant-loop-x : goal.invariant-loop-x
invariant-loop-x l = record {
  row : IsRow (event_count l.choice) l.set;
  below : HoldsBelow l.set (IsUnheldFor (wired_chart l.choice) l.choice.e) l.x;
}

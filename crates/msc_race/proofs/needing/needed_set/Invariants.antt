use Rattle.msc_race.specs.Choices.{event_count, wired_chart}
use Rattle.msc_race.specs.Remainders.{HoldsBelow}
use Rattle.msc_race.specs.Rows.{IsRow}
use Rattle.msc_race.specs.Short.{IsNeeded}
use Rattle.msc_race.proofs.needing.needed_set.Given as goal

abbrev pub invariant-loop-x : goal.invariant-loop-x
invariant-loop-x l = record {
  row : IsRow (event_count l.choice) l.set;
  below : HoldsBelow l.set (IsNeeded (wired_chart l.choice) l.choice.e) l.x;
}

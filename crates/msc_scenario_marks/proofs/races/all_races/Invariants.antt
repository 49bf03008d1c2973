use Rattle.std.proofs.Common.{◌≡◌}
use Rattle.msc_race.proofs.Listing.Raced.{races_below}
use Rattle.msc_race.specs.Walks.{HasReached}
use Rattle.msc_scenario_marks.proofs.races.all_races.Given as goal

-- the list has the races of the events so far
abbrev pub invariant-loop-e : goal.invariant-loop-e
invariant-loop-e l = record {
  reached : HasReached l.enforced.chart.events l.e l.walk;
  all : l.all.items ≡ races_below l.enforced l.e;
}

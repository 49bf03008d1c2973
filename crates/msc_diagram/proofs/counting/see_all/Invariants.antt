use Rattle.std.proofs.Common.{◌≡◌}
use Rattle.msc_race.proofs.Listing.Raced.{races_below}
use Rattle.msc_race.specs.Walks.{HasReached}
use Rattle.msc_diagram.specs.Places.{above_with, AreAllPlaces}
use Rattle.msc_diagram.specs.declared.scenario.Scenario.{Scenario}
use Rattle.msc_diagram.proofs.counting.see_all.Given as goal

-- the races of the events so far were seen
abbrev pub invariant-loop-e : goal.invariant-loop-e
invariant-loop-e l = record {
  reached : HasReached l.enforced.chart.events l.e l.walk;
  reported : (s : Scenario) → AreAllPlaces s l.places → l.reported ≡ above_with s l.fn.reported (races_below l.enforced l.e);
}

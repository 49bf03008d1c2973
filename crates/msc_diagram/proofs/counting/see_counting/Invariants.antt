use Rattle.std.proofs.Common.{◌≡◌}
use Rattle.msc_race.specs.Walks.{HasReached}
use Rattle.msc_reason.proofs.Sums.{kept_below}
use Rattle.msc_reason.specs.Counting.{counts}
use Rattle.msc_reason.specs.Marked.{cause_in}
use Rattle.msc_diagram.specs.Places.{above_with, AreAllPlaces}
use Rattle.msc_diagram.specs.declared.scenario.Scenario.{Scenario}
use Rattle.msc_diagram.proofs.counting.see_counting.Given as goal

-- the races of the events so far that count were seen
abbrev pub invariant-loop-e : goal.invariant-loop-e
invariant-loop-e l = record {
  reached : HasReached l.enforced.chart.events l.e l.walk;
  reported : (s : Scenario) → AreAllPlaces s l.places
      → l.reported ≡ above_with s l.fn.reported (kept_below l.enforced (counts l.left (cause_in l.enforced)) l.e);
}

use Rattle.std.proofs.Common.{◌≡◌}
use Rattle.msc_race.specs.Walks.{HasReached}
use Rattle.msc_reason.proofs.Sums.{kept_below}
use Rattle.msc_reason.specs.Counting.{is_listed}
use Rattle.msc_reason.specs.Marked.{cause_in}
use Rattle.msc_diagram.specs.Places.{above_with, fresh, AreAllPlaces}
use Rattle.msc_diagram.specs.declared.scenario.Scenario.{Scenario}
use Rattle.msc_diagram.proofs.counting.new_listed.Given as goal

-- the races of the events so far that are listed were seen, and the new ones are in the list
abbrev pub invariant-loop-e : goal.invariant-loop-e
invariant-loop-e l =
    let x = l.listing in
    let below = kept_below x.judged (is_listed x.judged x.allowed x.closest (cause_in x.judged)) l.e in
    record {
      reached : HasReached x.judged.chart.events l.e l.stream.walk;
      reported : (s : Scenario) → AreAllPlaces s l.places
          → l.reported ≡ above_with s l.fn.reported below;
      all : (s : Scenario) → AreAllPlaces s l.places → l.all.items ≡ fresh s l.fn.reported below;
    }

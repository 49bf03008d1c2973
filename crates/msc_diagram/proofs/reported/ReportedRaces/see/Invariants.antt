use Rattle.std.proofs.Common.{◌≡◌, take}
use Rattle.msc_diagram.specs.Places.{above_with, fresh, AreAllPlaces}
use Rattle.msc_diagram.specs.declared.scenario.Scenario.{Scenario}
use Rattle.msc_diagram.proofs.reported.ReportedRaces.see.Given as goal

-- those of the races so far that are new are on the list, and were seen
abbrev pub invariant-loop-race : goal.invariant-loop-race
invariant-loop-race l = (s : Scenario) → AreAllPlaces s l.places
    → (l.list.items ≡ fresh s l.fn.self (take l.race-index l.races)) × (l.self ≡ above_with s l.fn.self (take l.race-index l.races))

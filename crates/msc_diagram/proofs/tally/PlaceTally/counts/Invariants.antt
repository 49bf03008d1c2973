use Rattle.std.proofs.Common.{◌≡◌, ℕ, map, take}
use Rattle.msc_diagram.specs.Places.{places_in, AreAllPlaces}
use Rattle.msc_diagram.specs.Tallies.{tally_at}
use Rattle.msc_diagram.specs.declared.scenario.Scenario.{Scenario}
use Rattle.msc_diagram.proofs.tally.PlaceTally.counts.Given as goal

-- those of the races so far
abbrev pub invariant-loop-race : goal.invariant-loop-race
invariant-loop-race l = (s : Scenario) → AreAllPlaces s l.places
    → l.counts.items ≡ map (λ (p : ℕ × ℕ). tally_at l.self (places_in s p)) (take l.race-index l.races)

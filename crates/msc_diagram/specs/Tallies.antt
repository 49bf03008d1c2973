-- How often something was counted at places of races.
use Rattle.std.specs.Prelude.{ℕ, List, map, unwrap_or}
use Rattle.std.specs.Map.{lookup}
use Rattle.msc_diagram.specs.Places.{places_in, same_places}
use Rattle.msc_diagram.specs.declared.place.EventPlace.{EventPlace}
use Rattle.msc_diagram.specs.declared.scenario.Scenario.{Scenario}

-- how often at these places, by the numbers for places
abbrev pub tally_at : List ((EventPlace × EventPlace) × ℕ) → EventPlace × EventPlace → ℕ
tally_at tally places = unwrap_or (lookup (same_places places) tally) 0

-- and at the places of each of these races of a scenario
abbrev pub counts_of : List ((EventPlace × EventPlace) × ℕ) → Scenario → List (ℕ × ℕ) → List ℕ
counts_of tally s pairs = map (λ p. tally_at tally (places_in s p)) pairs

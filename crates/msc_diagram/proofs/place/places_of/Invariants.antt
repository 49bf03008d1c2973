use Rattle.std.proofs.Common.{◌≡◌, ℕ, ◌<◌, get_or, length}
use Rattle.msc_diagram.specs.Places.{no_place, place_of}
use Rattle.msc_diagram.proofs.place.places_of.Given as goal

-- the places of the events so far are on the list
abbrev pub invariant-loop-e : goal.invariant-loop-e
invariant-loop-e l = record {
  size : length l.places.items ≡ l.e;
  each : (e : ℕ) → e < l.e → get_or l.places.items e no_place ≡ place_of l.scenario e;
}

-- Places of events in a diagram, and which races of a scenario are new by the places of their
-- events.
use Rattle.std.specs.Prelude.{◌≡◌, ℕ, ◌<◌, Bool, false, ◌&&◌, cond, List, [], ◌∷◌, ◌++◌, get_or, length, map, nat_eq}
use Rattle.std.specs.List.{list_any}
use mathlib.Core.Bool.{beq}
use Rattle.msc_chart.specs.Charts.{line, is_controlled}
use Rattle.msc_place.specs.EventPositions.{event_position_of}
use Rattle.msc_diagram.specs.declared.place.EventPlace.{EventPlace}
use Rattle.msc_diagram.specs.declared.scenario.Scenario.{Scenario}

-- The place of event e: its instance, which end of an arrow it is, and where the arrow begins.
-- Events of two scenarios that have one place are drawn by one arrow, as in two rounds of a loop.
-- The action of a lost arrow has the place of its output.
abbrev pub place_of : Scenario → ℕ → EventPlace
place_of s e = record {
  instance = line s.chart.events e;
  acts = is_controlled s.chart.events e;
  line = (event_position_of s.event_positions e).line;
  column = (event_position_of s.event_positions e).column;
}

-- the places of both events of a race
abbrev pub places_in : Scenario → ℕ × ℕ → EventPlace × EventPlace
places_in s p = (place_of s p.0, place_of s p.1)

-- both are one place
abbrev pub same_place : EventPlace → EventPlace → Bool
same_place a b =
    nat_eq a.instance b.instance
    && (beq a.acts b.acts && (nat_eq a.line b.line && nat_eq a.column b.column))

-- both are the same two places
abbrev pub same_places : EventPlace × EventPlace → EventPlace × EventPlace → Bool
same_places p q = same_place p.0 q.0 && same_place p.1 q.1

-- those of these races, in their order, whose places no race above them has; these are the places
-- of the races above the first
abbrev pub fresh : Scenario → List (EventPlace × EventPlace) → List (ℕ × ℕ) → List (ℕ × ℕ)
fresh s above [] = []
fresh s above (p ∷ pairs) =
    cond (list_any (same_places (places_in s p)) above)
    (fresh s above pairs)
    (p ∷ fresh s (above ++ places_in s p ∷ []) pairs)

-- the places of all races above what comes behind them
abbrev pub above_with : Scenario → List (EventPlace × EventPlace) → List (ℕ × ℕ) → List (EventPlace × EventPlace)
above_with s above pairs = above ++ map (places_in s) (fresh s above pairs)

-- a place that is none of an event's
abbrev pub no_place : EventPlace
no_place = record { instance = 0; acts = false; line = 0; column = 0 }

-- these are the places of all events of a scenario, in their order
pub record AreAllPlaces (s : Scenario) (places : List EventPlace) : Type 0 where
  pub size : length places ≡ length s.chart.events
  pub each : (e : ℕ) → e < length s.chart.events → get_or places e no_place ≡ place_of s e

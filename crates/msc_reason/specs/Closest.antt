-- Closest races: where a drawing first claims what is not enforced.
use Rattle.std.specs.Prelude.{◌≡◌, ℕ, ◌↔◌, ◌⊎◌, List, IsTrue}
use Rattle.msc_chart.specs.declared.event.ChartEvent.{ChartEvent}
use Rattle.msc_chart.specs.Charts.{before}
use Rattle.msc_chart.specs.Lists.{Occurs}
use Rattle.msc_chart.specs.Orders.{WiredChart, IsRace}
use Rattle.msc_race.specs.Races.{AreAscending}

-- a race between whose events nothing is drawn
pub record IsClosest (chart : WiredChart) (e f : ℕ) : Type 0 where
  pub race : IsRace chart e f
  pub next : (x : ℕ) → IsTrue (before chart.events e x) → IsTrue (before chart.events x f) → ⊥

-- no pair is a closest race
abbrev pub HasNoClosestRace : WiredChart → Type 0
HasNoClosestRace chart = (e f : ℕ) → IsClosest chart e f → ⊥

-- the pair (g, h) stands within the pair (e, f): g is e or drawn after it, h is f or drawn before it
pub record StandsWithin (events : List ChartEvent) (e f g h : ℕ) : Type 0 where
  pub first : (g ≡ e) ⊎ IsTrue (before events e g)
  pub second : (h ≡ f) ⊎ IsTrue (before events h f)

-- the list of all closest races, ascending, each once
pub record IsClosestList (chart : WiredChart) (pairs : List (ℕ × ℕ)) : Type 0 where
  pub closest : (e f : ℕ) → IsClosest chart e f ↔ Occurs pairs (e, f)
  pub ascending : AreAscending pairs

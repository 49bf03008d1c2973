-- What the code keeps of the marks that are for an architecture.
use Rattle.std.specs.Prelude.{◌≡◌, ℕ, ◌<◌, Bool, ◌&&◌, List, length, get_or, nat_eq}
use Rattle.std.specs.List.{list_any, position_or_len}
use Rattle.msc_mark.specs.Accepting.{Acceptance, accepts_race, is_mark_for}
use Rattle.msc_mark.specs.Named.{MarkedChart, marked_chart}

-- the number of the mark of event e that is for the architecture, or how many marks there are
abbrev pub number_of : Acceptance → ℕ → ℕ
number_of a e = position_or_len (is_mark_for a.queues e) a.marks

-- for each event that number
pub record AreNumbers (a : Acceptance) (at : List ℕ) : Type 0 where
  pub each : length at ≡ length a.chart.events
  pub own : (e : ℕ) → e < length at → get_or at e 0 ≡ number_of a e

-- and what is kept of the events that the marks name is that of these marks and this chart
pub record IsLookedUp (a : Acceptance) (at : List ℕ) (seen : MarkedChart) : Type 0 where
  pub numbers : AreNumbers a at
  pub named : seen ≡ marked_chart a.marks a.chart

-- both events of a race are events of the chart
abbrev pub AreEvents : Acceptance → ℕ × ℕ → Type 0
AreEvents a p = (p.0 < length a.chart.events) × (p.1 < length a.chart.events)

-- the race is this pair, and accepted
abbrev pub accepts_pair : Acceptance → ℕ → ℕ → ℕ × ℕ → Bool
accepts_pair a x y p = (nat_eq x p.0 && nat_eq y p.1) && accepts_race a p

-- one of these races is
unfoldable pub accepts_some : Acceptance → List (ℕ × ℕ) → ℕ → ℕ → Bool
accepts_some a races x y = list_any (accepts_pair a x y) races

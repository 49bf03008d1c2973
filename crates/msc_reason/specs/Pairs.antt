-- Which two numbers are two events of a chart.
use Rattle.std.specs.Prelude.{◌≡◌, ◌≢◌, ◌≤◌, ◌<◌, ◌⊎◌, ℕ, length}
use Rattle.msc_chart.specs.Drawings.{Drawing}
use Rattle.msc_reason.specs.declared.pair.PairFault.{PairFault}
use Rattle.msc_reason.specs.declared.pair.PairFault.TheVariants.{NoEvent, OneEvent}

-- e and f are two events of a chart
pub record AreTwoEvents (d : Drawing) (e f : ℕ) : Type 0 where
  pub first : e < length d.events
  pub second : f < length d.events
  pub other : e ≢ f

-- the first fault of a pair: e is no event; e is one, and f is none; e is one, and f is the same
abbrev pub IsPairFault : Drawing → ℕ → ℕ → PairFault → Type 0
IsPairFault d e f (NoEvent x) =
    ((length d.events ≤ e) × (x ≡ e)) ⊎ ((e < length d.events) × (length d.events ≤ f) × (x ≡ f))
IsPairFault d e f (OneEvent x) = (e < length d.events) × (f ≡ e) × (x ≡ e)

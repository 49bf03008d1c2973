-- Runs that reverse two events.
use Rattle.std.specs.Prelude.{◌≡◌, ℕ, ◌⊎◌, List, IsTrue}
use Rattle.msc_chart.specs.Lists.{occurs, until}
use Rattle.msc_chart.specs.Witness.{IsWitness}
use Rattle.msc_chart.specs.Orders.{Enforced, WiredChart}
use Rattle.msc_chart.specs.Runs.{Run, IsWhole, Reverses}

-- no run has f before e: they are one event, or e is enforced before f
abbrev pub ComesFirst : WiredChart → ℕ → ℕ → Type 0
ComesFirst chart e f = (e ≡ f) ⊎ Enforced chart e f

-- a whole run that has f before e: the witness of e, which does not come first
pub record IsReversingRun (chart : WiredChart) (e f : ℕ) (events : List ℕ) : Type 0 where
  pub witness : IsWitness chart e events
  pub run : Run chart events
  pub whole : IsWhole chart events
  pub reverses : Reverses events e f
  pub apart : ComesFirst chart e f → ⊥
  pub before : IsTrue (occurs (until events e) f)

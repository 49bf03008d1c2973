-- Runs that show that the first of two events need not come before the second.
use Rattle.std.specs.Prelude.{◌≡◌, ℕ, Bool, true, false, List}
use Rattle.msc_chart.specs.Witness.{IsWitness}
use Rattle.msc_chart.specs.Orders.{WiredChart}
use Rattle.msc_chart.specs.Runs.{Run, IsWhole, Reverses}
use Rattle.msc_race.specs.Reversals.{ComesFirst}
use Rattle.msc_race.specs.Short.{IsShortWitness}

-- the run by which it is shown: the short witness of both where that is wanted, else the witness of
-- the first
abbrev pub IsShownRun : Bool → WiredChart → ℕ → ℕ → List ℕ → Type 0
IsShownRun false chart e f events = IsWitness chart e events
IsShownRun true chart e f events = IsShortWitness chart e f events

-- That run, and what it shows: it is a run, a whole one where it is no short one, that has f and
-- not e before f. So e does not come first.
pub record IsShown (short : Bool) (chart : WiredChart) (e f : ℕ) (events : List ℕ) : Type 0 where
  pub shown : IsShownRun short chart e f events
  pub run : Run chart events
  pub whole : short ≡ false → IsWhole chart events
  pub reverses : Reverses events e f
  pub apart : ComesFirst chart e f → ⊥

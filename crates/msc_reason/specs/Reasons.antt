-- Why the first of two events comes before the second, or how it need not.
use Rattle.std.specs.Prelude.{ℕ, Bool, List, Option, MatchOption}
use Rattle.msc_chart.specs.Orders.{WiredChart, Enforced, IsRace}
use Rattle.msc_race.specs.Shown.{IsShown}
use Rattle.msc_reason.specs.declared.cause.Cause.{Cause}
use Rattle.msc_reason.specs.declared.why.Why.{Why}
use Rattle.msc_reason.specs.declared.reason.Reason.{Reason}
use Rattle.msc_reason.specs.declared.reason.Reason.TheVariants.{Enforced as EnforcedBy, Free}
use Rattle.msc_reason.specs.Rules.{IsChosenWhy}
use Rattle.msc_reason.specs.Causes.{IsCauseOf}

-- e is not enforced before f
abbrev pub IsNotEnforced : WiredChart → ℕ → ℕ → Type 0
IsNotEnforced chart e f = Enforced chart e f → ⊥

-- the pair is no race
abbrev pub IsNoRace : WiredChart → ℕ → ℕ → Type 0
IsNoRace chart e f = IsRace chart e f → ⊥

-- the pair is a race, and this is its cause
abbrev pub IsRaceWith : WiredChart → ℕ → ℕ → Cause → Type 0
IsRaceWith chart e f cause = IsRace chart e f × IsCauseOf chart e f cause

-- The pair is not enforced: a run shows it, the short witness of both events where that is wanted,
-- else the witness of the first. There is a cause exactly where the pair is a race, and something
-- that shows that f is enforced before e exactly where it is.
pub record IsFreeBy (short : Bool) (chart : WiredChart) (e f : ℕ) (run : List ℕ) (cause : Option Cause) (late : Option Why) : Type 0 where
  pub free : IsNotEnforced chart e f
  pub shown : IsShown short chart e f run
  pub race : MatchOption cause (IsNoRace chart e f) (IsRaceWith chart e f)
  pub turned : MatchOption late (IsNotEnforced chart f e) (IsChosenWhy chart f e)

-- what is said of a pair of events is right
abbrev pub IsReason : Bool → WiredChart → ℕ → ℕ → Reason → Type 0
IsReason short chart e f (EnforcedBy why) = IsChosenWhy chart e f why
IsReason short chart e f (Free run cause late) = IsFreeBy short chart e f run cause late

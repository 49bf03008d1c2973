-- The run that is shown for a blocked pair.
use Rattle.std.specs.Prelude.{◌≡◌, ℕ, ◌⊎◌, Bool, false, List, [], ◌++◌, IsTrue}
use Rattle.msc_chart.specs.Lists.{occurs, IsLeast, Steps}
use Rattle.msc_chart.specs.Charts.{partner, is_input, is_output}
use Rattle.msc_chart.specs.Orders.{WiredChart}
use Rattle.msc_chart.specs.Runs.{Reverses}
use Rattle.msc_ready.specs.Readiness.{HasStuck, MayComeReady, ReadyOrder}
use Rattle.msc_ready.specs.BlockedPairs.{IsFirstBlockedPair}

-- x is t or stands before it
abbrev pub IsUpTo : WiredChart → (ℕ → Bool) → ℕ → ℕ → Type 0
IsUpTo chart ready t x = (x ≡ t) ⊎ ReadyOrder chart ready x t

-- x may come next, and is t or stands before it
abbrev pub ComesUpTo : WiredChart → (ℕ → Bool) → ℕ → List ℕ → ℕ → Type 0
ComesUpTo chart ready t past x = IsUpTo chart ready t x × MayComeReady chart ready past x

-- x may come next, and is an input
abbrev pub ComesAsInput : WiredChart → (ℕ → Bool) → List ℕ → ℕ → Type 0
ComesAsInput chart ready past x = IsTrue (is_input chart.events x) × MayComeReady chart ready past x

-- Before t has occurred: the least event up to t that may come next, or, where none may, the least
-- input that may. What stands before t is left no longer than t is.
pub record IsTowardNext (chart : WiredChart) (ready : ℕ → Bool) (t : ℕ) (past : List ℕ) (x : ℕ) : Type 0 where
  pub left : occurs past t ≡ false
  pub least : IsLeast (ComesUpTo chart ready t past) x
      ⊎ (((y : ℕ) → ComesUpTo chart ready t past y → ⊥) × IsLeast (ComesAsInput chart ready past) x)

-- and then the least event that may come next
abbrev pub IsBlockedPairNext : WiredChart → (ℕ → Bool) → ℕ → List ℕ → ℕ → Type 0
IsBlockedPairNext chart ready t past x =
    IsTowardNext chart ready t past x ⊎ (IsTrue (occurs past t) × IsLeast (MayComeReady chart ready past) x)

-- The run that is shown for a blocked pair: each event is the one that comes next so, on the way to
-- the output of f. The system has stuck after it; the output of f was sent and, before that, that
-- of e was not.
pub record IsBlockedPairRun (chart : WiredChart) (ready : ℕ → Bool) (e f : ℕ) (events : List ℕ) : Type 0 where
  pub witness : Steps (IsBlockedPairNext chart ready (partner chart.events f)) [] events
  pub stuck : HasStuck chart ready events
  pub reverses : Reverses events (partner chart.events e) (partner chart.events f)

-- a run for each event, which shows each first blocked pair of which the event is the second
abbrev pub AreBlockedPairRuns : WiredChart → (ℕ → Bool) → (ℕ → List ℕ) → Type 0
AreBlockedPairRuns chart ready runs = (e f : ℕ) → IsFirstBlockedPair chart ready e f → IsBlockedPairRun chart ready e f (runs f)

-- each output of the list is t or stands before it
abbrev pub HasOutputsUpTo : WiredChart → (ℕ → Bool) → ℕ → List ℕ → Type 0
HasOutputsUpTo chart ready t past =
    (s : ℕ) → IsTrue (is_output chart.events s) → IsTrue (occurs past s) → IsUpTo chart ready t s

-- one list goes on as another
abbrev pub GoesOnAs : List ℕ → List ℕ → Type 0
GoesOnAs xs ys = (rest : List ℕ) × (ys ≡ xs ++ rest)

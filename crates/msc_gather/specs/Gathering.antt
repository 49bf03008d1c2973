-- The least run that has given logs as its lines.
use Rattle.std.specs.Prelude.{◌≡◌, ℕ, ◌<◌, List, [], ◌∷◌, ◌⊎◌}
use Rattle.msc_chart.specs.Orders.{WiredChart}
use Rattle.msc_chart.specs.Runs.{Run, HasLines}

-- xs does not come after ys, event by event: at the first place where they differ xs has the
-- smaller event, or xs ends
abbrev pub IsNotAfter : List ℕ → List ℕ → Type 0
IsNotAfter [] ys = Unit {0}
IsNotAfter (x ∷ xs) [] = ⊥
IsNotAfter (x ∷ xs) (y ∷ ys) = (x < y) ⊎ ((x ≡ y) × IsNotAfter xs ys)

-- of the runs whose lines are the logs, the one that is least event by event
pub record IsGathered (chart : WiredChart) (instances : ℕ) (logs : List (List ℕ))
    (events : List ℕ) : Type 0 where
  pub run : Run chart events
  pub lines : HasLines chart instances logs events
  pub least : (other : List ℕ) → Run chart other → HasLines chart instances logs other
      → IsNotAfter events other

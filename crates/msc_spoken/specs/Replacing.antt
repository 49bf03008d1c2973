-- A list in which one item replaces each front that a rule finds.
use Rattle.std.specs.Prelude.{ℕ, zero, suc, List, [], ◌∷◌}

-- Of the list from each place on, the rule says what replaces its front, and how many items this front
-- has after the first. The number says how many items are left out before that.
unfoldable pub replaced : (List ℕ → ℕ × ℕ) → ℕ → List ℕ → List ℕ
replaced rule n [] = []
replaced rule zero (x ∷ xs) = (rule (x ∷ xs)).0 ∷ replaced rule (rule (x ∷ xs)).1 xs
replaced rule (suc n) (x ∷ xs) = replaced rule n xs

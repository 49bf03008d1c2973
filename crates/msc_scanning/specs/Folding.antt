-- What is printed of one thing after another.
use Rattle.std.specs.Prelude.{◌≡◌, ℕ, List, [], ◌∷◌, ◌++◌}

-- What is printed of these things in their order, where it is known what is printed of each, and what
-- is carried from it to the next.
abbrev pub Folds : {A S : Type 0} → (A → S → S → List ℕ → Type 0) → List A → S → S → List ℕ → Type 0
Folds step [] start end printed = (end ≡ start) × (printed ≡ [])
Folds {A} {S} step (a ∷ others) start end printed =
    (next : S) × (first rest : List ℕ) × step a start next first × Folds step others next end rest × (printed ≡ first ++ rest)

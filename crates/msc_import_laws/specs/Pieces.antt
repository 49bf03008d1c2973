-- How the statements of a line stand in it.
use Rattle.std.specs.Prelude.{◌≡◌, ℕ, false, List, [], ◌∷◌, ◌++◌}
use Rattle.msc_mermaid.specs.Cutting.{cut, is_entity}

-- pieces with a semicolon between each two
unfoldable pub rejoined : List (List ℕ) → List ℕ
rejoined [] = []
rejoined (p ∷ []) = p
rejoined (p ∷ q ∷ ps) = p ++ 59 ∷ rejoined (q ∷ ps)

-- nothing, or a comment: a `#` that begins no entity, and all that stands behind it
abbrev pub IsComment : List ℕ → Type 0
IsComment [] = Unit {0}
IsComment (b ∷ bs) = (b ≡ 35) × (is_entity bs ≡ false)

-- a line is its pieces, each of which is read, with semicolons between them, and a comment behind them
abbrev pub PiecesAreTheLine : Type 0
PiecesAreTheLine = (bytes : List ℕ) → (comment : List ℕ) × (bytes ≡ rejoined (cut bytes) ++ comment) × IsComment comment

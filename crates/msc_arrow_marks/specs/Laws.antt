-- Laws of marks.
use Rattle.std.specs.Prelude.{◌≡◌, ℕ, false, List, ◌∷◌, length}
use Rattle.std.specs.List.{flat_map, AllByRecursion}
use Rattle.msc_arrow_marks.specs.Parts.{open_length, open_parts}

-- no separator in it is outside of quotes
abbrev pub IsWhole : ℕ → List ℕ → Type 0
IsWhole separator part = open_length separator false part ≡ length part

-- With a separator in front of each, the parts make the text with one in front. And no part can be
-- parted.
pub record PartsMakeTheText : Type 0 where
  pub text : (separator : ℕ) (bytes : List ℕ) → flat_map (λ part. separator ∷ part) (open_parts separator bytes) ≡ separator ∷ bytes
  pub whole : (separator : ℕ) (bytes : List ℕ) → ¬ (separator ≡ 34) → AllByRecursion (IsWhole separator) (open_parts separator bytes)

-- Texts in parts between separators: between all, or between those that are not in double quotes.
use Rattle.std.specs.Prelude.{ℕ, ◌+◌, Bool, false, not, cond, ◌&&◌, ◌==◌, List, [], ◌∷◌, ◌++◌}
use Rattle.std.specs.List.{slice_split}

-- the pieces between all separators
abbrev pub pieces : ℕ → List ℕ → List (List ℕ)
pieces separator text = slice_split (λ b. b == separator) text

abbrev pub is_quote : ℕ → Bool
is_quote byte = byte == 34

-- what follows a byte is between quotes, if the byte itself is or not
abbrev pub quoted_after : Bool → ℕ → Bool
quoted_after quoted byte = cond (is_quote byte) (not quoted) quoted

-- the byte is the separator, and not between quotes
abbrev pub separates : ℕ → Bool → ℕ → Bool
separates separator quoted byte = byte == separator && not quoted

-- how many bytes stand before the first separator that is not between quotes, or all
unfoldable pub open_length : ℕ → Bool → List ℕ → ℕ
open_length separator quoted [] = 0
open_length separator quoted (b ∷ bs) = cond (separates separator quoted b) 0
    (1 + open_length separator (quoted_after quoted b) bs)

-- the parts between such separators; `part` is what was met of the first
unfoldable pub parts_from : ℕ → Bool → List ℕ → List ℕ → List (List ℕ)
parts_from separator quoted part [] = part ∷ []
parts_from separator quoted part (b ∷ bs) = cond (separates separator quoted b)
    (part ∷ parts_from separator (quoted_after quoted b) [] bs)
    (parts_from separator (quoted_after quoted b) (part ++ b ∷ []) bs)

abbrev pub open_parts : ℕ → List ℕ → List (List ℕ)
open_parts separator bytes = parts_from separator false [] bytes

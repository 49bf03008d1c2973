-- The name of an architecture in what is printed of a text under several ones.
use Rattle.std.specs.Prelude.{◌≡◌, ℕ, ◌-◌, ◌==◌, Bool, ◌&&◌, not, cond, nat_lt, List, [], ◌∷◌, ◌++◌, drop, length, take, false, codes, eqb}
use Rattle.std.specs.List.{All, ends_with, flat_map, suffix_len}

-- a word and a blank before a line
abbrev pub with_name : List ℕ → List ℕ → List ℕ
with_name word line = word ++ (codes " " ++ line)

-- the kind of a finding begins
abbrev pub is_bracket : ℕ → Bool
is_bracket byte = byte == 91

-- the number of bytes of a line behind its last bracket
abbrev pub behind_bracket : List ℕ → ℕ
behind_bracket line = suffix_len (λ byte. not (is_bracket byte)) line

-- a line ends with a kind in brackets
abbrev pub has_kind : List ℕ → Bool
has_kind line = ends_with eqb line (codes "]") && nat_lt (behind_bracket line) (length line)

-- a line with a word and a blank before its kind, if it has one
abbrev pub split_line : List ℕ → List ℕ → ℕ → List ℕ
split_line word line before = take before line ++ (word ++ (codes " " ++ drop before line))

abbrev pub named_line : List ℕ → List ℕ → List ℕ
named_line word line = cond (has_kind line) (split_line word line (length line - behind_bracket line)) line

-- bytes without the end of a line
abbrev pub IsLine : List ℕ → Type 0
IsLine bytes = All (λ byte. (byte == 10) ≡ false) bytes

-- The lines of a text have the word before their kinds. What follows the last end of a line is as it
-- was.
pub record HasNames (word bytes printed : List ℕ) : Type 0 where
  pub lines : List (List ℕ)
  pub are_lines : All IsLine lines
  pub rest : List ℕ
  pub rest_is : IsLine rest
  pub bytes_are : bytes ≡ flat_map (λ line. line ++ 10 ∷ []) lines ++ rest
  pub printed_are : printed ≡ flat_map (λ line. named_line word line ++ 10 ∷ []) lines ++ rest

-- Lines and columns of places. LF alone ends a line, and each byte of a line that is no continuation
-- byte of UTF-8 is a column.
use Rattle.std.specs.Prelude.{◌≡◌, ◌⊎◌, ℕ, ◌+◌, ◌≤◌, Bool, ◌||◌, ◌==◌, nat_lt, List, [], ◌∷◌, ◌++◌, length, take, drop, count_by}

-- the byte ends a line: LF
abbrev pub is_line_end : ℕ → Bool
is_line_end b = b == 10

-- the byte begins a character: every byte does but the continuation bytes of UTF-8
abbrev pub begins_character : ℕ → Bool
begins_character b = nat_lt b 128 || nat_lt 191 b

-- the bytes end with this one
abbrev pub EndsWith : ℕ → List ℕ → Type 0
EndsWith b bytes = (front : List ℕ) × (bytes ≡ front ++ b ∷ [])

-- what stands before a place: the lines above, each with its LF, and what stands before the place on
-- its own line
pub record IsCut (before above start : List ℕ) : Type 0 where
  pub whole : before ≡ above ++ start
  pub lines : (above ≡ []) ⊎ EndsWith 10 above
  pub one_line : count_by (is_line_end) start ≡ 0

-- the last line of what stands before a place begins here
pub record BeginsLine (before : List ℕ) (at : ℕ) : Type 0 where
  pub within : at ≤ length before
  pub cut : IsCut before (take at before) (drop at before)

-- what follows these bytes is on this line, in this column, both from 1
pub record EndsAt (before : List ℕ) (line column : ℕ) : Type 0 where
  pub above : List ℕ
  pub start : List ℕ
  pub cut : IsCut before above start
  pub line_is : line ≡ count_by (is_line_end) above + 1
  pub column_is : column ≡ count_by begins_character start + 1

-- the place is on this line, in this column, both from 1
abbrev pub IsPosition : List ℕ → ℕ → ℕ → ℕ → Type 0
IsPosition text at line column = EndsAt (take at text) line column

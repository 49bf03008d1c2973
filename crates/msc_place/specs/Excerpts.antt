-- The line of a place as it is shown, with a mark below the place.
use Rattle.std.specs.Prelude.{◌≡◌, ℕ, ◌-◌, ◌==◌, ◌&&◌, nat_le, List, [], ◌∷◌, ◌++◌, length, take, drop, map, min, replicate, slice_index, count_by, if◌then◌else◌}
use Rattle.std.specs.List.{filter, before_first}
use Rattle.msc_place.specs.Positions.{is_line_end, begins_character, IsCut}

-- what is shown for a byte: itself, a blank for a tab, and `?` for what can't be printed
abbrev pub shown : ℕ → ℕ
shown b = if b == 9 then 32 else (if nat_le 32 b && nat_le b 126 then b else 63)

-- the bytes without a CR at their end
abbrev pub without_return : List ℕ → List ℕ
without_return line =
    if slice_index line (length line - 1) == 13 then take (length line - 1) line else line

-- the line of a place: what stands before the place, and what follows it up to a LF
abbrev pub line_of : List ℕ → List ℕ → List ℕ
line_of start rest = without_return (start ++ before_first (is_line_end) rest)

-- the columns of a line
abbrev pub row_of : List ℕ → List ℕ
row_of line = map shown (filter begins_character line)

-- the first column that is shown, from 0, where so many columns stand before the place
abbrev pub first_of : ℕ → ℕ
first_of before = before - 49

-- the row behind two blanks, and a mark below its column `before`, or behind its last one
abbrev pub lines_of : List ℕ → ℕ → List ℕ
lines_of row before =
    32 ∷ 32 ∷ take 100 (drop (first_of before) row) ++ (10 ∷ 32 ∷ 32 ∷ replicate (min before (length row) - first_of before) 32 ++ (94 ∷ 10 ∷ []))

-- these are the two lines of the place
pub record IsExcerpt (text : List ℕ) (at : ℕ) (lines : List ℕ) : Type 0 where
  pub above : List ℕ
  pub start : List ℕ
  pub cut : IsCut (take at text) above start
  pub lines_are : lines
      ≡ lines_of (row_of (line_of start (drop at text))) (count_by begins_character start)

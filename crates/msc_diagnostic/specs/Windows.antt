-- The part of a long line that is shown: a window of 100 columns.
use Rattle.std.specs.Prelude.{ℕ, ◌+◌, ◌-◌, Bool, cond, ◌&&◌, ◌||◌, ◌==◌, nat_le, nat_lt, List, [], ◌∷◌, ◌++◌, length, drop, max, min, take, codes}
use Rattle.std.specs.List.{fold}
use Rattle.msc_spoken.specs.Cutting.{columns_of, fitting, width_of}
use Rattle.msc_spoken.specs.Speaking.{before_blanks}
use Rattle.msc_diagnostic.specs.Plain.{Placed}
use Rattle.msc_diagnostic.specs.declared.window.Window.{Window}

-- how many characters at the front begin before this column
unfoldable pub beginning : ℕ → List ℕ → ℕ
beginning column [] = 0
beginning column (c ∷ cs) = cond (column == 0) 0 (1 + beginning (column - width_of c) cs)

-- the greatest column that a mark on a line goes up to
abbrev pub last_column : ℕ → List Placed → ℕ
last_column line marks = fold (λ last mark. cond (mark.line == line) (max last mark.past) last) 0 marks

-- A window on a line of so many columns has 49 columns before a mark that begins at this column, but
-- it begins no later than the line leaves it full.
abbrev pub around : ℕ → ℕ → ℕ
around total column = min (column - 49) (total - 100)

-- It begins later if only so all marks, which go up to the column `last`, are whole in it.
abbrev pub moved : ℕ → ℕ → ℕ → ℕ
moved column last begin = cond (nat_lt begin (last - 100) && nat_le (last - 100) column) (last - 100) begin

-- where the window begins; a line of at most 100 columns is shown whole
abbrev pub window_begin : ℕ → ℕ → ℕ → ℕ
window_begin total column last = cond (nat_le total 100) 0 (moved column last (around total column))

-- what is shown in a window that begins at this column: so many characters are left out before it,
-- and so many are whole in it
abbrev pub skipped : ℕ → List ℕ → ℕ
skipped begin shown = beginning begin shown

abbrev pub low_of : ℕ → List ℕ → ℕ
low_of begin shown = columns_of (take (skipped begin shown) shown)

abbrev pub inside_from : ℕ → ℕ → List ℕ → List ℕ
inside_from begin low left = take (fitting (100 - (low - begin)) left) left

abbrev pub inside : ℕ → List ℕ → List ℕ
inside begin shown = inside_from begin (low_of begin shown) (drop (skipped begin shown) shown)

-- the window on a line, of which these characters are shown
abbrev pub window_at : ℕ → ℕ → List ℕ → Window
window_at line begin shown = record {
  line = line;
  begin = begin;
  total = columns_of shown;
  skipped = skipped begin shown;
  low = low_of begin shown;
  high = low_of begin shown + columns_of (inside begin shown);
  count = length (inside begin shown);
}

-- `...` in place of what is left out
abbrev pub dots_if : Bool → List ℕ
dots_if left_out = cond left_out (codes "...") []

-- what is shown in a window, with `...` on each side where something is left out
abbrev pub ended : Bool → List ℕ → List ℕ
ended left_out shown = cond left_out (shown ++ codes "...") (before_blanks shown)

abbrev pub window_text : Window → List ℕ → List ℕ
window_text window shown =
    ended (nat_lt (window.skipped + window.count) (length shown)) (dots_if (nat_lt 0 window.skipped) ++ take window.count (drop window.skipped shown))

-- A mark is shown below the same row as the one before it: it is on the same line, and it begins in
-- the window.
abbrev pub continues : Window → Placed → Bool
continues window mark = mark.line == window.line && (nat_le window.total 100 || nat_lt (mark.column - window.begin) 100)

-- the columns before a mark in its row
abbrev pub columns_before : Window → Placed → ℕ
columns_before window mark =
    length (dots_if (nat_lt 0 window.skipped)) + (min mark.column window.high - window.low) + (mark.column - window.total)

-- the columns of a mark: those of its part of the line that are in the window, and at least one
abbrev pub columns_marked : Window → Placed → ℕ
columns_marked window mark = max (min mark.past window.high - max mark.column window.low) 1

-- Laws of diagnostics.
use Rattle.std.specs.Prelude.{◌≡◌, ℕ, ◌+◌, ◌<◌, ◌≤◌, Bool, true, false, nat_lt, List, [], ◌∷◌, ◌++◌, count_by, length, map, slice_index, take}
use Rattle.std.specs.List.{AllByRecursion}
use Rattle.msc_spoken.specs.Cutting.{columns_of}
use Rattle.msc_spoken.specs.Showing.{shown_text}
use Rattle.msc_diagnostic.specs.declared.colour.Colour.{Colour}
use Rattle.msc_diagnostic.specs.Plain.{Diagnostic}
use Rattle.msc_diagnostic.specs.Plain.{Mark}
use Rattle.msc_diagnostic.specs.Plain.{Placed}
use Rattle.msc_diagnostic.specs.declared.source.LineEnds.{LineEnds}
use Rattle.msc_diagnostic.specs.declared.source.LineEnds.TheVariants.{Any, LineFeed}
use Rattle.msc_diagnostic.specs.declared.window.Window.{Window}
use Rattle.msc_diagnostic.specs.Lines.{line_bytes, line_of, line_starts, start_of}
use Rattle.msc_diagnostic.specs.Columns.{columns_in}
use Rattle.msc_diagnostic.specs.Marks.{comes_before, placed_mark, placed_marks}
use Rattle.msc_diagnostic.specs.Windows.{columns_before, columns_marked, dots_if, window_at, window_begin}
use Rattle.msc_diagnostic.specs.Rows.{reset, sequence}
use Rattle.msc_diagnostic.specs.Blocks.{diagnostic_text}
use Rattle.msc_diagnostic.specs.ShownTexts.{AreShownRows, HasShownTexts}

-- The second text is the first without its colours: each sequence that begins one is closed by the
-- one that ends it, after the text that has the colour.
pub data Uncoloured : List ℕ → List ℕ → Type 0 where
  nothing : Uncoloured [] []
  byte : (b : ℕ) (xs ys : List ℕ) → Uncoloured xs ys → Uncoloured (b ∷ xs) (b ∷ ys)
  colour : (c : Colour) (text xs ys : List ℕ) → Uncoloured xs ys → Uncoloured (sequence c ++ (text ++ (reset ++ xs))) (text ++ ys)

-- Without its colours, a diagnostic is the one that has none.
abbrev pub ColoursAddNothing : Type 0
ColoursAddNothing =
    (ends : LineEnds) (text : List ℕ) (d : Diagnostic) → Uncoloured (diagnostic_text true ends text d) (diagnostic_text false ends text d)

-- a mark, on its line, below a window on it
pub record LiesInWindow (bytes : List ℕ) (window : Window) (mark : Placed) : Type 0 where
  pub on_line : mark.first ≤ length bytes
  pub begins : window.low ≤ mark.column
  pub ends : mark.past ≤ window.high

-- A mark that lies in a window begins below its part of the line: the columns before it in its row,
-- and those of the line that are left out before the window, are those of what is shown of the line
-- before the mark, and of `...`. It has the columns of what is shown of its part.
pub record StandsBelow (bytes : List ℕ) (window : Window) (mark : Placed) : Type 0 where
  pub before : columns_before window mark + columns_of (take window.skipped (shown_text bytes)) ≡ length (dots_if (nat_lt 0 window.skipped)) + columns_of (shown_text (take mark.first bytes))
  pub marked : columns_marked window mark ≡ columns_in bytes mark.first mark.count

abbrev pub MarkStandsBelow : List ℕ → ℕ → Placed → Type 0
MarkStandsBelow bytes begin mark =
    LiesInWindow bytes (window_at mark.line begin (shown_text bytes)) mark → StandsBelow bytes (window_at mark.line begin (shown_text bytes)) mark

-- This is so wherever the window begins.
abbrev pub MarksStandBelowTheirSpans : Type 0
MarksStandBelowTheirSpans =
    (ends : LineEnds) (text : List ℕ) (mark : Mark) (begin : ℕ)
    → MarkStandsBelow (line_bytes (line_starts ends text) text (placed_mark ends text mark).line) begin (placed_mark ends text mark)

-- No mark comes before one that is listed earlier.
pub data InOrder : List Placed → Type 0 where
  none : InOrder []
  first : (mark : Placed) (marks : List Placed) → AllByRecursion (λ later. comes_before later mark ≡ false) marks → InOrder marks → InOrder (mark ∷ marks)

-- The marks are listed in order, and they are those that are given, each as often.
pub record MarksAreSorted : Type 0 where
  pub ordered : (ends : LineEnds) (text : List ℕ) (marks : List Mark) → InOrder (placed_marks ends text marks)
  pub same : (ends : LineEnds) (text : List ℕ) (marks : List Mark) (test : Placed → Bool) → count_by test (placed_marks ends text marks) ≡ count_by test (map (placed_mark ends text) marks)

-- Each character of a diagnostic without colours is one that is shown, or ends a row, if its own texts
-- are shown; of the text that it is on nothing is required. With colours there are only those more
-- bytes that `ColoursAddNothing` names.
abbrev pub OnlyShownCharacters : Type 0
OnlyShownCharacters =
    (ends : LineEnds) (text : List ℕ) (d : Diagnostic) → HasShownTexts d → AreShownRows (diagnostic_text false ends text d)

-- No byte of these ends a line: none is a line feed, or a carriage return if each kind of end counts.
abbrev pub IsNoEnd : LineEnds → ℕ → Type 0
IsNoEnd LineFeed b = ¬ (b ≡ 10)
IsNoEnd Any b = ¬ (b ≡ 10) × ¬ (b ≡ 13)

-- A line lies between two ends of lines: no byte of it is one. A place is on the line that begins
-- last at it or before it.
pub record LinesLieBetweenEnds : Type 0 where
  pub without_ends :
      (ends : LineEnds) (text : List ℕ) (line i : ℕ)
      → 0 < line → line ≤ length (line_starts ends text) → i < length (line_bytes (line_starts ends text) text line)
      → IsNoEnd ends (slice_index (line_bytes (line_starts ends text) text line) i)
  pub from_first : (ends : LineEnds) (text : List ℕ) (at : ℕ) → 0 < line_of (line_starts ends text) at
  pub begins :
      (ends : LineEnds) (text : List ℕ) (at : ℕ)
      → start_of (line_starts ends text) (line_of (line_starts ends text) at) ≤ at
  pub before_next :
      (ends : LineEnds) (text : List ℕ) (at : ℕ)
      → line_of (line_starts ends text) at < length (line_starts ends text)
      → at < slice_index (line_starts ends text) (line_of (line_starts ends text) at)

-- The window for a mark that begins on its line, before the column `total`, has the column at which
-- the mark begins. It has all marks of the line, which go up to the column `last`, if they fit into
-- one window from there. And it is full, if the line is.
pub record WindowsHoldTheirMarks : Type 0 where
  pub first :
      (total column last : ℕ) → column < total
      → (window_begin total column last ≤ column) × (column < window_begin total column last + 100)
  pub all : (total column last : ℕ) → 100 < total → last ≤ column + 100 → last ≤ window_begin total column last + 100
  pub full : (total column last : ℕ) → 100 < total → last ≤ total → window_begin total column last + 100 ≤ total

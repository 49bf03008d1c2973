-- A diagnostic: its sentence, its place, the lines with marks, and its notes.
use Rattle.std.specs.Prelude.{ℕ, ◌-◌, Bool, cond, not, ◌&&◌, ◌||◌, ◌==◌, nat_le, List, [], ◌∷◌, ◌++◌, Option, None, Some, encode_utf8_all, length, max}
use Rattle.std.specs.Fmt.{decimal}
use Rattle.std.specs.List.{flat_map, fold}
use Rattle.msc_spoken.specs.Cutting.{columns_of}
use Rattle.msc_spoken.specs.Showing.{shown_text}
use Rattle.msc_diagnostic.specs.Plain.{Diagnostic}
use Rattle.msc_diagnostic.specs.declared.diagnostic.Level.{Level}
use Rattle.msc_diagnostic.specs.Plain.{Note}
use Rattle.msc_diagnostic.specs.declared.frame.Frame.{Frame}
use Rattle.msc_diagnostic.specs.Plain.{Placed}
use Rattle.msc_diagnostic.specs.declared.source.LineEnds.{LineEnds}
use Rattle.msc_diagnostic.specs.declared.window.Window.{Window}
use Rattle.msc_diagnostic.specs.Lines.{line_bytes, line_starts}
use Rattle.msc_diagnostic.specs.Marks.{placed_marks}
use Rattle.msc_diagnostic.specs.Rows.{bar_row, dots_row, end_row, head_row, line_row, mark_row, note_rows, place_row}
use Rattle.msc_diagnostic.specs.Windows.{columns_before, columns_marked, continues, last_column, window_at, window_begin, window_text}

-- what is shown of a line
abbrev pub shown_line : LineEnds → List ℕ → ℕ → List ℕ
shown_line ends text line = shown_text (line_bytes (line_starts ends text) text line)

-- the row of a line, of which these characters are shown, through a window
abbrev pub window_row : Frame → Window → List ℕ → List ℕ
window_row f window shown = line_row f window.line (encode_utf8_all (window_text window shown))

-- a line without marks: its beginning
abbrev pub plain_row_of : Frame → ℕ → List ℕ → List ℕ
plain_row_of f line shown = window_row f (window_at line 0 shown) shown

unfoldable pub plain_row : Frame → LineEnds → List ℕ → ℕ → List ℕ
plain_row f ends text line = plain_row_of f line (shown_line ends text line)

-- Between two lines with marks one single line is shown too, and more are left out. Before the first
-- such line, of which the one before is line 0, nothing is.
abbrev pub rows_between : Frame → LineEnds → List ℕ → ℕ → ℕ → List ℕ
rows_between f ends text before line =
    cond (before == 0 || nat_le (line - before) 1) [] (
    cond (line - before == 2) (plain_row f ends text (line - 1)) (dots_row f)
    )

-- the window on a line, of which these characters are shown, for a mark and those after it
abbrev pub window_on : List ℕ → Placed → List Placed → Window
window_on shown mark marks =
    window_at mark.line (window_begin (columns_of shown) mark.column (last_column mark.line marks)) shown

unfoldable pub window_for : LineEnds → List ℕ → Placed → List Placed → Window
window_for ends text mark marks = window_on (shown_line ends text mark.line) mark marks

-- the window for a mark and those after it, after this one
abbrev pub next_window : LineEnds → List ℕ → Window → Placed → List Placed → Window
next_window ends text window mark marks = cond (continues window mark) window (window_for ends text mark marks)

-- the rows up to the line of a mark; none if the mark is below the same row as the one before it
abbrev pub opening_rows : Frame → LineEnds → List ℕ → Window → Placed → Window → List ℕ
opening_rows f ends text before mark window =
    rows_between f ends text before.line mark.line ++ window_row f window (shown_line ends text mark.line)

abbrev pub rows_before : Frame → LineEnds → List ℕ → Window → Placed → Window → List ℕ
rows_before f ends text before mark window = cond (continues before mark) [] (opening_rows f ends text before mark window)

-- the row of a mark
abbrev pub signs_row : Frame → Window → Placed → List ℕ
signs_row f window mark = mark_row f (columns_before window mark) (columns_marked window mark) mark.sign mark.label

-- the rows of marks that are in order, after this window
unfoldable pub rows_of : Frame → LineEnds → List ℕ → Window → List Placed → List ℕ
rows_of f ends text before [] = []
rows_of f ends text before (mark ∷ marks) =
    let window = next_window ends text before mark (mark ∷ marks) in
    rows_before f ends text before mark window ++ (signs_row f window mark ++ rows_of f ends text window marks)

-- the window before the first mark: on no line
abbrev pub no_window : Window
no_window = record { line = 0; begin = 0; total = 0; skipped = 0; count = 0; low = 0; high = 0 }

-- the lines with marks
abbrev pub lines_part : Frame → LineEnds → List ℕ → List Placed → List ℕ
lines_part f ends text marks = cond (length marks == 0) [] (bar_row f ++ rows_of f ends text no_window marks)

-- the columns of numbers of lines, those of the greatest
abbrev pub greatest_line : List Placed → ℕ
greatest_line marks = fold (λ last mark. max last mark.line) 1 marks

abbrev pub frame_of : Bool → Level → List Placed → Frame
frame_of colours level marks = record { colours = colours; level = level; gap = length (decimal (greatest_line marks)) }

abbrev pub place_part : Frame → Option (List ℕ) → List ℕ
place_part f None = []
place_part f (Some place) = place_row f place

-- the notes, after a bar if there are marks
abbrev pub notes_part : Frame → List Placed → List Note → List ℕ
notes_part f marks notes =
    cond (not (length marks == 0) && not (length notes == 0)) (bar_row f) [] ++ flat_map (note_rows f) notes

abbrev pub parts_of : Frame → LineEnds → List ℕ → List Placed → Diagnostic → List ℕ
parts_of f ends text marks d =
    head_row f d.id d.sentence
    ++ (place_part f d.place
    ++ (lines_part f ends text marks ++ (notes_part f marks d.notes ++ end_row)))

-- a diagnostic on a text, as it is printed
unfoldable pub diagnostic_text : Bool → LineEnds → List ℕ → Diagnostic → List ℕ
diagnostic_text colours ends text d =
    let marks = placed_marks ends text d.marks in parts_of (frame_of colours d.level marks) ends text marks d

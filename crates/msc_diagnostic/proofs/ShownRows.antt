-- Only shown characters are printed.
use Rattle.std.proofs.Common.{◌≡◌, ℕ, ◌-◌, false, cond, not, ◌&&◌, ◌||◌, ◌==◌, List, [], ◌∷◌, ◌++◌, Option, None, Some, length, replicate, nat_le, refl, sym, subst}
use Rattle.std.specs.Fmt.{decimal}
use Rattle.std.specs.List.{AllByRecursion, flat_map, fold}
use Rattle.std.specs.Prelude.{codes, encode_utf8_all}
use Rattle.msc_spoken.specs.Laws as spoken
use Rattle.msc_diagnostic.specs.declared.colour.Colour.{Colour}
use Rattle.msc_diagnostic.specs.declared.colour.Colour.TheVariants.{BoldBlue}
use Rattle.msc_diagnostic.specs.Plain.{Diagnostic}
use Rattle.msc_diagnostic.specs.declared.diagnostic.Level.{Level}
use Rattle.msc_diagnostic.specs.Plain.{Note}
use Rattle.msc_diagnostic.specs.declared.diagnostic.NoteKind.{NoteKind}
use Rattle.msc_diagnostic.specs.declared.frame.Frame.{Frame}
use Rattle.msc_diagnostic.specs.Plain.{Mark}
use Rattle.msc_diagnostic.specs.Plain.{Placed}
use Rattle.msc_diagnostic.specs.declared.mark.Sign.{Sign}
use Rattle.msc_diagnostic.specs.declared.source.LineEnds.{LineEnds}
use Rattle.msc_diagnostic.specs.declared.window.Window.{Window}
use Rattle.msc_diagnostic.specs.Lines.{line_bytes, line_starts}
use Rattle.msc_diagnostic.specs.Marks.{placed_mark, placed_marks, place_among, with_mark}
use Rattle.msc_diagnostic.specs.Windows.{columns_before, columns_marked, continues, window_at, window_text}
use Rattle.msc_diagnostic.specs.Rows.{bar, bar_row, blank_before, blanks, dots_row, end_row, further_row, head_row, kind_word, level_part, level_word, line_row, mark_row, note_row, note_rows, number_part, painted, place_row, sentence_part, sign_code, sign_colour, signs_part}
use Rattle.msc_diagnostic.specs.Blocks.{diagnostic_text, greatest_line, lines_part, next_window, no_window, notes_part, opening_rows, parts_of, place_part, plain_row, rows_before, rows_between, rows_of, shown_line, signs_row, window_row}
use Rattle.msc_diagnostic.specs.Laws.{OnlyShownCharacters}
use Rattle.msc_diagnostic.proofs.SortingLemmas.{all_with}
use Rattle.msc_diagnostic.specs.ShownTexts.{AreShownRows, HasShownTexts, IsShownNote, IsShownOption, IsShownText}
use Rattle.msc_diagnostic.proofs.ShownLemmas.{none, then, text_rows, level_rows, kind_rows, sign_rows, blanks_rows, blank_before_rows, ended_text, either, each, decimal_rows, window_rows, open_lit, close_lit, colon_lit, blank_lit, arrow_lit, bar_sign_lit, dots_lit, equals_lit, three_lit}

-- The rows of a diagnostic without colours.
module _ (texts : spoken.OnlyShownCharacters) (level : Level) (gap : ℕ) where
  off : Frame
  off = record { colours = false; level = level; gap = gap }

  Rows : (Frame → List ℕ) → Type 0
  Rows part = AreShownRows (part off)

  painted_rows : (c : Colour) (text : List ℕ) → AreShownRows text → Rows (λ f. painted f c text)
  unfolding Rows off
  painted_rows c text is = then text [] is none

  gap_rows : Rows (λ f. blanks f.gap)
  unfolding Rows off
  gap_rows = blanks_rows gap

  bar_rows : Rows bar
  unfolding Rows off bar
  bar_rows = painted_rows BoldBlue (blanks gap ++ codes " |") (then (blanks gap) (codes " |") (blanks_rows gap) bar_sign_lit)

  number_rows : (line : ℕ) → Rows (λ f. number_part f line)
  unfolding Rows off number_part
  number_rows line =
      let before = blanks (gap - length (decimal line)) in
      painted_rows BoldBlue (before ++ (decimal line ++ codes " |"))
      (then before (decimal line ++ codes " |") (blanks_rows (gap - length (decimal line))) (then (decimal line) (codes " |") (decimal_rows line) bar_sign_lit))

  signs_rows : (count : ℕ) (sign : Sign) (label : List ℕ) → AreShownRows label → Rows (λ f. signs_part f count sign label)
  unfolding Rows off signs_part
  signs_rows count sign label is =
      let signs = replicate count (sign_code sign) in
      painted_rows (sign_colour level sign) (signs ++ (blank_before label ++ label))
      (then signs (blank_before label ++ label) (sign_rows sign count) (then (blank_before label) label (blank_before_rows label) is))

  head_rows : (id sentence : List ℕ) → AreShownRows id → AreShownRows sentence → Rows (λ f. head_row f id sentence)
  unfolding Rows off level_part sentence_part
  head_rows id sentence is shown =
      let first = level_word level ++ (codes "[" ++ (id ++ codes "]")) in
      let one = then (level_word level) (codes "[" ++ (id ++ codes "]")) (level_rows level) (then (codes "[") (id ++ codes "]") open_lit (then id (codes "]") is close_lit)) in
      let second = codes ": " ++ sentence in
      let two = then (codes ": ") sentence colon_lit shown in
      then (first ++ []) ((second ++ []) ++ end_row) (then first [] one none) (ended_text (second ++ []) (then second [] two none))

  place_rows : (place : List ℕ) → AreShownRows place → Rows (λ f. place_row f place)
  unfolding Rows off
  place_rows place is =
      then (blanks gap) ((codes "-->" ++ []) ++ (codes " " ++ (place ++ end_row))) (blanks_rows gap)
      (then (codes "-->" ++ []) (codes " " ++ (place ++ end_row)) (then (codes "-->") [] arrow_lit none)
      (then (codes " ") (place ++ end_row) blank_lit (ended_text place is)))

  bar_row_rows : Rows bar_row
  unfolding Rows
  bar_row_rows = ended_text (bar off) bar_rows

  dots_rows : Rows dots_row
  unfolding Rows off
  dots_rows = ended_text (codes "..." ++ []) (then (codes "...") [] dots_lit none)

  line_rows : (line : ℕ) (text : List ℕ) → AreShownRows text → Rows (λ f. line_row f line text)
  unfolding Rows
  line_rows line text is =
      then (number_part off line) (blank_before text ++ (text ++ end_row)) (number_rows line)
      (then (blank_before text) (text ++ end_row) (blank_before_rows text) (ended_text text is))

  mark_rows : (before count : ℕ) (sign : Sign) (label : List ℕ) → AreShownRows label → Rows (λ f. mark_row f before count sign label)
  unfolding Rows
  mark_rows before count sign label is =
      let signs = signs_part off count sign label in
      then (bar off) (codes " " ++ (blanks before ++ (signs ++ end_row))) bar_rows
      (then (codes " ") (blanks before ++ (signs ++ end_row)) blank_lit
      (then (blanks before) (signs ++ end_row) (blanks_rows before) (ended_text signs (signs_rows count sign label is))))

  note_rows' : (kind : NoteKind) (text : List ℕ) → AreShownRows text → Rows (λ f. note_row f kind text)
  unfolding Rows off
  note_rows' kind text is =
      let rest = codes ": " ++ (text ++ end_row) in
      then (blanks gap) ((codes " = " ++ []) ++ ((kind_word kind ++ []) ++ rest)) (blanks_rows gap)
      (then (codes " = " ++ []) ((kind_word kind ++ []) ++ rest) (then (codes " = ") [] equals_lit none)
      (then (kind_word kind ++ []) rest (then (kind_word kind) [] (kind_rows kind) none)
      (then (codes ": ") (text ++ end_row) colon_lit (ended_text text is))))

  further_rows : (text : List ℕ) → AreShownRows text → Rows (λ f. further_row f text)
  unfolding Rows off
  further_rows text is =
      then (blanks gap) (codes "   " ++ (text ++ end_row)) (blanks_rows gap) (then (codes "   ") (text ++ end_row) three_lit (ended_text text is))

  note_all : (note : Note) → IsShownNote note → Rows (λ f. note_rows f note)
  unfolding Rows
  note_all note is =
      then (note_row off note.kind note.text) (flat_map (further_row off) note.rows)
      (note_rows' note.kind note.text (text_rows note.text is.text))
      (each (List ℕ) IsShownText (further_row off) note.rows (λ row shown. further_rows row (text_rows row shown)) is.rows)

  notes_rows : (notes : List Note) → AllByRecursion IsShownNote notes → Rows (λ f. flat_map (note_rows f) notes)
  unfolding Rows
  notes_rows notes all = each Note IsShownNote (note_rows off) notes note_all all

  notes_part_rows : (marks : List Placed) (notes : List Note) → AllByRecursion IsShownNote notes → Rows (λ f. notes_part f marks notes)
  unfolding Rows
  notes_part_rows marks notes all =
      let test = not (length marks == 0) && not (length notes == 0) in
      then (cond test (bar_row off) []) (flat_map (note_rows off) notes) (either test (bar_row off) [] bar_row_rows none) (notes_rows notes all)

  place_part_rows : (place : Option (List ℕ)) → IsShownOption place → Rows (λ f. place_part f place)
  unfolding Rows
  place_part_rows None is = none
  place_part_rows (Some place) is = place_rows place (text_rows place is)

  -- The lines of a text.
  module _ (ends : LineEnds) (text : List ℕ) where
    line_shown : (line : ℕ) → spoken.AreShown (shown_line ends text line)
    line_shown line = texts.shown (line_bytes (line_starts ends text) text line)

    window_row_rows : (window : Window) (line : ℕ) → Rows (λ f. window_row f window (shown_line ends text line))
    window_row_rows window line =
        let shown = shown_line ends text line in
        line_rows window.line (encode_utf8_all (window_text window shown)) (window_rows window shown (line_shown line))

    plain_rows : (line : ℕ) → Rows (λ f. plain_row f ends text line)
    unfolding Rows plain_row
    plain_rows line = window_row_rows (window_at line 0 (shown_line ends text line)) line

    between_rows : (before line : ℕ) → Rows (λ f. rows_between f ends text before line)
    unfolding Rows
    between_rows before line =
        let row = plain_row off ends text (line - 1) in
        let some = cond (line - before == 2) row (dots_row off) in
        either (before == 0 || nat_le (line - before) 1) [] some none (either (line - before == 2) row (dots_row off) (plain_rows (line - 1)) dots_rows)

    opening : (before : Window) (mark : Placed) (window : Window) → Rows (λ f. opening_rows f ends text before mark window)
    unfolding Rows
    opening before mark window =
        then (rows_between off ends text before.line mark.line) (window_row off window (shown_line ends text mark.line)) (between_rows before.line mark.line) (window_row_rows window mark.line)

    before_rows : (before : Window) (mark : Placed) (window : Window) → Rows (λ f. rows_before f ends text before mark window)
    unfolding Rows
    before_rows before mark window =
        let rows = opening_rows off ends text before mark window in
        either (continues before mark) [] rows none (opening before mark window)

    all_rows : (window : Window) (marks : List Placed) → AllByRecursion (λ mark. IsShownText mark.label) marks → Rows (λ f. rows_of f ends text window marks)
    unfolding Rows rows_of
    all_rows window [] all = none
    all_rows window (mark ∷ marks) all =
        let next = next_window ends text window mark (mark ∷ marks) in
        then (rows_before off ends text window mark next) (signs_row off next mark ++ rows_of off ends text next marks) (before_rows window mark next)
        (then (signs_row off next mark) (rows_of off ends text next marks)
        (mark_rows (columns_before next mark) (columns_marked next mark) mark.sign mark.label (text_rows mark.label all.0)) (all_rows next marks all.1))

    lines_rows : (marks : List Placed) → AllByRecursion (λ mark. IsShownText mark.label) marks → Rows (λ f. lines_part f ends text marks)
    unfolding Rows
    lines_rows marks all =
        let rows = bar_row off ++ rows_of off ends text no_window marks in
        either (length marks == 0) [] rows none (then (bar_row off) (rows_of off ends text no_window marks) bar_row_rows (all_rows no_window marks all))

    parts_rows : (marks : List Placed) (d : Diagnostic) → AllByRecursion (λ mark. IsShownText mark.label) marks → HasShownTexts d → Rows (λ f. parts_of f ends text marks d)
    unfolding Rows
    parts_rows marks d labels is =
        let place = d.place in
        let notes = notes_part off marks d.notes in
        then (head_row off d.id d.sentence) (place_part off place ++ (lines_part off ends text marks ++ (notes ++ end_row))) (head_rows d.id d.sentence (text_rows d.id is.id) (text_rows d.sentence is.sentence))
        (then (place_part off place) (lines_part off ends text marks ++ (notes ++ end_row)) (place_part_rows place is.place)
        (then (lines_part off ends text marks) (notes ++ end_row) (lines_rows marks labels) (ended_text notes (notes_part_rows marks d.notes is.notes))))

-- the labels of marks that are listed in order
module _ (ends : LineEnds) (text : List ℕ) where
  abbrev Labelled : Placed → Type 0
  Labelled mark = IsShownText mark.label

  same_label : (mark : Mark) → (placed_mark ends text mark).label ≡ mark.label
  unfolding placed_mark
  same_label mark = refl

  labels : (marks : List Mark) (sorted : List Placed) → AllByRecursion Labelled sorted → AllByRecursion (λ mark. IsShownText mark.label) marks
      → AllByRecursion Labelled (fold (λ sorted mark. with_mark sorted (placed_mark ends text mark)) sorted marks)
  labels [] sorted all given = all
  labels (mark ∷ marks) sorted all given =
      let place = placed_mark ends text mark in
      let one : Labelled place = subst (λ l. IsShownText l) (sym (same_label mark)) given.0 in
      labels marks (with_mark sorted place) (all_with Labelled (place_among place sorted) place sorted one all) given.1

pub shown_lem : spoken.OnlyShownCharacters → OnlyShownCharacters
unfolding diagnostic_text off Rows
shown_lem texts ends text d is =
    let marks = placed_marks ends text d.marks in
    parts_rows texts d.level (length (decimal (greatest_line marks))) ends text marks d (labels ends text d.marks [] tt is.labels) is

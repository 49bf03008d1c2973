-- Without its colours, a diagnostic is the one that has none.
use Rattle.std.proofs.Common.{ℕ, ◌-◌, Bool, true, false, cond, List, [], ◌∷◌, ◌++◌, Option, None, Some, length, sym, subst, append_assoc, nat_le, ◌==◌, ◌||◌, not, ◌&&◌}
use Rattle.std.specs.List.{flat_map}
use Rattle.std.specs.Fmt.{decimal}
use Rattle.std.specs.Prelude.{codes}
use Rattle.msc_diagnostic.specs.declared.colour.Colour.{Colour}
use Rattle.msc_diagnostic.specs.declared.colour.Colour.TheVariants.{Bold, BoldBlue}
use Rattle.msc_diagnostic.specs.Plain.{Diagnostic}
use Rattle.msc_diagnostic.specs.declared.diagnostic.Level.{Level}
use Rattle.msc_diagnostic.specs.Plain.{Note}
use Rattle.msc_diagnostic.specs.declared.diagnostic.NoteKind.{NoteKind}
use Rattle.msc_diagnostic.specs.declared.frame.Frame.{Frame}
use Rattle.msc_diagnostic.specs.Plain.{Placed}
use Rattle.msc_diagnostic.specs.declared.mark.Sign.{Sign}
use Rattle.msc_diagnostic.specs.declared.source.LineEnds.{LineEnds}
use Rattle.msc_diagnostic.specs.declared.window.Window.{Window}
use Rattle.msc_diagnostic.specs.Marks.{placed_marks}
use Rattle.msc_diagnostic.specs.Rows.{bar, bar_row, blank_before, blanks, dots_row, end_row, further_row, head_row, kind_word, level_colour, level_part, line_row, mark_row, note_row, note_rows, number_part, painted, place_row, reset, sentence_part, sequence, sign_colour, signs_part}
use Rattle.msc_diagnostic.specs.Blocks.{diagnostic_text, greatest_line, lines_part, next_window, no_window, notes_part, opening_rows, parts_of, place_part, plain_row, rows_before, rows_between, rows_of, signs_row}
use Rattle.msc_diagnostic.specs.Windows.{columns_before, columns_marked, continues}
use Rattle.msc_diagnostic.specs.Laws.{ColoursAddNothing, Uncoloured, nothing, byte, colour}

-- a text has no colours
same : (xs : List ℕ) → Uncoloured xs xs
same [] = nothing
same (x ∷ xs) = byte x xs xs (same xs)

-- two texts, one after the other
both : (xs ys xs' ys' : List ℕ) → Uncoloured xs ys → Uncoloured xs' ys' → Uncoloured (xs ++ xs') (ys ++ ys')
both _ _ xs' ys' nothing then = then
both _ _ xs' ys' (byte b xs ys first) then = byte b (xs ++ xs') (ys ++ ys') (both xs ys xs' ys' first then)
both _ _ xs' ys' (colour c text xs ys first) then =
    let rest = colour c text (xs ++ xs') (ys ++ ys') (both xs ys xs' ys' first then) in
    let plain = sym (append_assoc text ys ys') in
    subst (λ (t : List ℕ). Uncoloured ((sequence c ++ (text ++ (reset ++ xs))) ++ xs') t) plain
    (rw (append_assoc, append_assoc, append_assoc) rest)

-- one of two texts
either : (b : Bool) (xs ys xs' ys' : List ℕ) → Uncoloured xs ys → Uncoloured xs' ys' → Uncoloured (cond b xs xs') (cond b ys ys')
either true xs ys xs' ys' first then = first
either false xs ys xs' ys' first then = then

-- texts of a list, one after the other
each : (X : Type 0) (f g : X → List ℕ) (xs : List X) → ((x : X) → Uncoloured (f x) (g x)) → Uncoloured (flat_map f xs) (flat_map g xs)
each X f g [] one = nothing
each X f g (x ∷ xs) one = both (f x) (g x) (flat_map f xs) (flat_map g xs) (one x) (each X f g xs one)

-- The rows of a diagnostic in a frame with colours, and in one without.
module _ (level : Level) (gap : ℕ) where
  on : Frame
  on = record { colours = true; level = level; gap = gap }

  off : Frame
  off = record { colours = false; level = level; gap = gap }

  -- the same part with and without colours
  Part : (Frame → List ℕ) → Type 0
  Part part = Uncoloured (part on) (part off)

  painted_part : (c : Colour) (text : List ℕ) → Part (λ f. painted f c text)
  unfolding Part on off
  painted_part c text = colour c text [] [] nothing

  then : (f g : Frame → List ℕ) → Part f → Part g → Part (λ frame. f frame ++ g frame)
  unfolding Part
  then f g first second = both (f on) (f off) (g on) (g off) first second

  plain : (text : List ℕ) → Part (λ f. text)
  unfolding Part
  plain text = same text

  bar_part : Part bar
  unfolding Part on off bar
  bar_part = colour BoldBlue (blanks gap ++ codes " |") [] [] nothing

  number_part' : (line : ℕ) → Part (λ f. number_part f line)
  unfolding Part on off number_part
  number_part' line = colour BoldBlue _ [] [] nothing

  signs_part' : (count : ℕ) (sign : Sign) (label : List ℕ) → Part (λ f. signs_part f count sign label)
  unfolding Part on off signs_part
  signs_part' count sign label = colour (sign_colour level sign) _ [] [] nothing

  level_part' : (id : List ℕ) → Part (λ f. level_part f id)
  unfolding Part on off level_part
  level_part' id = colour (level_colour level) _ [] [] nothing

  sentence_part' : (sentence : List ℕ) → Part (λ f. sentence_part f sentence)
  unfolding Part on off sentence_part
  sentence_part' sentence = colour Bold (codes ": " ++ sentence) [] [] nothing

  gap_part : Part (λ f. blanks f.gap)
  unfolding Part on off
  gap_part = same (blanks gap)

  head_part : (id sentence : List ℕ) → Part (λ f. head_row f id sentence)
  head_part id sentence =
      then (λ f. level_part f id) (λ f. sentence_part f sentence ++ end_row) (level_part' id)
      (then (λ f. sentence_part f sentence) (λ f. end_row) (sentence_part' sentence) (plain end_row))

  place_row' : (place : List ℕ) → Part (λ f. place_row f place)
  place_row' place =
      then (λ f. blanks f.gap) (λ f. painted f BoldBlue (codes "-->") ++ (codes " " ++ (place ++ end_row))) gap_part
      (then (λ f. painted f BoldBlue (codes "-->")) (λ f. codes " " ++ (place ++ end_row)) (painted_part BoldBlue (codes "-->")) (plain (codes " " ++ (place ++ end_row))))

  place_part' : (place : Option (List ℕ)) → Part (λ f. place_part f place)
  place_part' None = plain []
  place_part' (Some place) = place_row' place

  bar_row' : Part bar_row
  bar_row' = then bar (λ f. end_row) bar_part (plain end_row)

  dots_row' : Part dots_row
  dots_row' = then (λ f. painted f BoldBlue (codes "...")) (λ f. end_row) (painted_part BoldBlue (codes "...")) (plain end_row)

  line_row' : (line : ℕ) (text : List ℕ) → Part (λ f. line_row f line text)
  line_row' line text =
      then (λ f. number_part f line) (λ f. blank_before text ++ (text ++ end_row)) (number_part' line) (plain (blank_before text ++ (text ++ end_row)))

  mark_row' : (before count : ℕ) (sign : Sign) (label : List ℕ) → Part (λ f. mark_row f before count sign label)
  mark_row' before count sign label =
      then bar (λ f. codes " " ++ (blanks before ++ (signs_part f count sign label ++ end_row))) bar_part
      (then (λ f. codes " ") (λ f. blanks before ++ (signs_part f count sign label ++ end_row)) (plain (codes " "))
      (then (λ f. blanks before) (λ f. signs_part f count sign label ++ end_row) (plain (blanks before))
      (then (λ f. signs_part f count sign label) (λ f. end_row) (signs_part' count sign label) (plain end_row))))

  note_row' : (kind : NoteKind) (text : List ℕ) → Part (λ f. note_row f kind text)
  note_row' kind text =
      then (λ f. blanks f.gap) (λ f. painted f BoldBlue (codes " = ") ++ (painted f Bold (kind_word kind) ++ (codes ": " ++ (text ++ end_row)))) gap_part
      (then (λ f. painted f BoldBlue (codes " = ")) (λ f. painted f Bold (kind_word kind) ++ (codes ": " ++ (text ++ end_row))) (painted_part BoldBlue (codes " = "))
      (then (λ f. painted f Bold (kind_word kind)) (λ f. codes ": " ++ (text ++ end_row)) (painted_part Bold (kind_word kind)) (plain (codes ": " ++ (text ++ end_row)))))

  further_row' : (text : List ℕ) → Part (λ f. further_row f text)
  further_row' text = then (λ f. blanks f.gap) (λ f. codes "   " ++ (text ++ end_row)) gap_part (plain (codes "   " ++ (text ++ end_row)))

  note_rows' : (note : Note) → Part (λ f. note_rows f note)
  unfolding Part
  note_rows' note =
      then (λ f. note_row f note.kind note.text) (λ f. flat_map (further_row f) note.rows) (note_row' note.kind note.text)
      (each (List ℕ) (further_row on) (further_row off) note.rows further_row')

  notes' : (notes : List Note) → Part (λ f. flat_map (note_rows f) notes)
  unfolding Part
  notes' notes = each Note (note_rows on) (note_rows off) notes note_rows'

  notes_part' : (marks : List Placed) (notes : List Note) → Part (λ f. notes_part f marks notes)
  unfolding Part
  notes_part' marks notes =
      let test = not (length marks == 0) && not (length notes == 0) in
      then (λ f. cond test (bar_row f) []) (λ f. flat_map (note_rows f) notes)
      (either test (bar_row on) (bar_row off) [] [] bar_row' nothing) (notes' notes)

  -- The lines of a text.
  module _ (ends : LineEnds) (text : List ℕ) where
    plain_row' : (line : ℕ) → Part (λ f. plain_row f ends text line)
    unfolding plain_row
    plain_row' line = line_row' line _

    rows_between' : (before line : ℕ) → Part (λ f. rows_between f ends text before line)
    unfolding Part
    rows_between' before line =
        let row = λ (f : Frame). plain_row f ends text (line - 1) in
        let some = λ (f : Frame). cond (line - before == 2) (row f) (dots_row f) in
        either (before == 0 || nat_le (line - before) 1) [] [] (some on) (some off) nothing
        (either (line - before == 2) (row on) (row off) (dots_row on) (dots_row off) (plain_row' (line - 1)) dots_row')

    opening_rows' : (before : Window) (mark : Placed) (window : Window) → Part (λ f. opening_rows f ends text before mark window)
    opening_rows' before mark window =
        then (λ f. rows_between f ends text before.line mark.line) (λ f. line_row f window.line _) (rows_between' before.line mark.line) (line_row' window.line _)

    rows_before' : (before : Window) (mark : Placed) (window : Window) → Part (λ f. rows_before f ends text before mark window)
    unfolding Part
    rows_before' before mark window =
        let rows = λ (f : Frame). opening_rows f ends text before mark window in
        either (continues before mark) [] [] (rows on) (rows off) nothing (opening_rows' before mark window)

    rows_of' : (window : Window) (marks : List Placed) → Part (λ f. rows_of f ends text window marks)
    unfolding Part rows_of
    rows_of' window [] = nothing
    rows_of' window (mark ∷ marks) =
        let next = next_window ends text window mark (mark ∷ marks) in
        then (λ f. rows_before f ends text window mark next) (λ f. signs_row f next mark ++ rows_of f ends text next marks) (rows_before' window mark next)
        (then (λ f. signs_row f next mark) (λ f. rows_of f ends text next marks) (mark_row' (columns_before next mark) (columns_marked next mark) mark.sign mark.label) (rows_of' next marks))

    lines_part' : (marks : List Placed) → Part (λ f. lines_part f ends text marks)
    unfolding Part
    lines_part' marks =
        let rows = λ (f : Frame). bar_row f ++ rows_of f ends text no_window marks in
        either (length marks == 0) [] [] (rows on) (rows off) nothing
        (then bar_row (λ f. rows_of f ends text no_window marks) bar_row' (rows_of' no_window marks))

    parts_of' : (marks : List Placed) (d : Diagnostic) → Part (λ f. parts_of f ends text marks d)
    parts_of' marks d =
        let place = d.place in
        then (λ f. head_row f d.id d.sentence) (λ f. place_part f place ++ (lines_part f ends text marks ++ (notes_part f marks d.notes ++ end_row))) (head_part d.id d.sentence)
        (then (λ f. place_part f place) (λ f. lines_part f ends text marks ++ (notes_part f marks d.notes ++ end_row)) (place_part' place)
        (then (λ f. lines_part f ends text marks) (λ f. notes_part f marks d.notes ++ end_row) (lines_part' marks)
        (then (λ f. notes_part f marks d.notes) (λ f. end_row) (notes_part' marks d.notes) (plain end_row))))

pub colours_lem : ColoursAddNothing
unfolding diagnostic_text on off Part
colours_lem ends text d =
    let marks = placed_marks ends text d.marks in
    parts_of' d.level (length (decimal (greatest_line marks))) ends text marks d

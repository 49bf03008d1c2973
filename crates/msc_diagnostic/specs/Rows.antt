-- The rows of a diagnostic. Colours are sequences of ECMA-48
-- (Select Graphic Rendition), each closed in its row.
use Rattle.std.specs.Prelude.{ℕ, ◌-◌, Bool, cond, ◌==◌, List, [], ◌∷◌, ◌++◌, length, replicate, codes}
use Rattle.std.specs.Fmt.{decimal}
use Rattle.std.specs.List.{flat_map}
use Rattle.msc_diagnostic.specs.declared.colour.Colour.{Colour}
use Rattle.msc_diagnostic.specs.declared.colour.Colour.TheVariants.{Blue, Bold, BoldBlue, BoldRed, BoldYellow}
use Rattle.msc_diagnostic.specs.declared.diagnostic.Level.{Level}
use Rattle.msc_diagnostic.specs.declared.diagnostic.Level.TheVariants as levels
use Rattle.msc_diagnostic.specs.Plain.{Note}
use Rattle.msc_diagnostic.specs.declared.diagnostic.NoteKind.{NoteKind}
use Rattle.msc_diagnostic.specs.declared.diagnostic.NoteKind.TheVariants as kinds
use Rattle.msc_diagnostic.specs.declared.mark.Sign.{Sign}
use Rattle.msc_diagnostic.specs.declared.mark.Sign.TheVariants.{Caret, Dash}
use Rattle.msc_diagnostic.specs.declared.frame.Frame.{Frame}

-- the sequence that begins a colour
abbrev pub sequence : Colour → List ℕ
sequence BoldRed = 27 ∷ codes "[1;31m"
sequence BoldYellow = 27 ∷ codes "[1;33m"
sequence Bold = 27 ∷ codes "[1m"
sequence BoldBlue = 27 ∷ codes "[1;34m"
sequence Blue = 27 ∷ codes "[34m"

-- the sequence that ends all colours
abbrev pub reset : List ℕ
reset = 27 ∷ codes "[0m"

-- a colour begins or ends, if there are colours
abbrev pub opened : Bool → Colour → List ℕ
opened colours colour = cond colours (sequence colour) []

abbrev pub closed : Bool → List ℕ
closed colours = cond colours reset []

abbrev pub level_word : Level → List ℕ
level_word levels.Error = codes "error"
level_word levels.Warning = codes "warning"

abbrev pub level_colour : Level → Colour
level_colour levels.Error = BoldRed
level_colour levels.Warning = BoldYellow

abbrev pub kind_word : NoteKind → List ℕ
kind_word kinds.Note = codes "note"
kind_word kinds.Help = codes "help"

abbrev pub sign_code : Sign → ℕ
sign_code Caret = 94
sign_code Dash = 45

abbrev pub sign_colour : Level → Sign → Colour
sign_colour level Caret = level_colour level
sign_colour level Dash = Blue

abbrev pub blanks : ℕ → List ℕ
blanks count = replicate count 32

-- a blank, if a text follows
abbrev pub blank_before : List ℕ → List ℕ
blank_before text = cond (length text == 0) [] (codes " ")

abbrev pub end_row : List ℕ
end_row = 10 ∷ []

-- a text in a colour
abbrev pub painted : Frame → Colour → List ℕ → List ℕ
painted f colour text = opened f.colours colour ++ (text ++ closed f.colours)

-- LEVEL[ID], and : SENTENCE
unfoldable pub level_part : Frame → List ℕ → List ℕ
level_part f id = painted f (level_colour f.level) (level_word f.level ++ (codes "[" ++ (id ++ codes "]")))

unfoldable pub sentence_part : Frame → List ℕ → List ℕ
sentence_part f sentence = painted f Bold (codes ": " ++ sentence)

abbrev pub head_row : Frame → List ℕ → List ℕ → List ℕ
head_row f id sentence = level_part f id ++ (sentence_part f sentence ++ end_row)

-- --> PLACE
abbrev pub place_row : Frame → List ℕ → List ℕ
place_row f place = blanks f.gap ++ (painted f BoldBlue (codes "-->") ++ (codes " " ++ (place ++ end_row)))

-- the bar below the numbers of lines, and after such a number
unfoldable pub bar : Frame → List ℕ
bar f = painted f BoldBlue (blanks f.gap ++ codes " |")

unfoldable pub number_part : Frame → ℕ → List ℕ
number_part f line = painted f BoldBlue (blanks (f.gap - length (decimal line)) ++ (decimal line ++ codes " |"))

abbrev pub bar_row : Frame → List ℕ
bar_row f = bar f ++ end_row

-- lines that are left out
abbrev pub dots_row : Frame → List ℕ
dots_row f = painted f BoldBlue (codes "...") ++ end_row

-- a line, by its number, and what is shown of it
abbrev pub line_row : Frame → ℕ → List ℕ → List ℕ
line_row f line text = number_part f line ++ (blank_before text ++ (text ++ end_row))

-- so many signs, and a label
unfoldable pub signs_part : Frame → ℕ → Sign → List ℕ → List ℕ
signs_part f count sign label =
    painted f (sign_colour f.level sign) (replicate count (sign_code sign) ++ (blank_before label ++ label))

-- a mark after so many columns
abbrev pub mark_row : Frame → ℕ → ℕ → Sign → List ℕ → List ℕ
mark_row f before count sign label =
    bar f ++ (codes " " ++ (blanks before ++ (signs_part f count sign label ++ end_row)))

-- a note: = WORD: TEXT
abbrev pub note_row : Frame → NoteKind → List ℕ → List ℕ
note_row f kind text =
    blanks f.gap
    ++ (painted f BoldBlue (codes " = ") ++ (painted f Bold (kind_word kind) ++ (codes ": " ++ (text ++ end_row))))

-- a further row of a note
abbrev pub further_row : Frame → List ℕ → List ℕ
further_row f text = blanks f.gap ++ (codes "   " ++ (text ++ end_row))

abbrev pub note_rows : Frame → Note → List ℕ
note_rows f note = note_row f note.kind note.text ++ flat_map (further_row f) note.rows

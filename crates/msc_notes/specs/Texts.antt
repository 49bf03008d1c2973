-- Notes as they are printed.
use Rattle.std.specs.Prelude.{◌≡◌, ℕ, ◌++◌, List, [], ◌∷◌, Option, None, Some, codes, length, min}
use Rattle.msc_place.specs.Positions.{IsPosition}
use Rattle.msc_place.specs.EventPositions.{beginning}
use Rattle.msc_place.specs.Texts.{place_text}
use Rattle.msc_place.specs.declared.position.Position.{Position}
use Rattle.msc_notes.specs.declared.note.Note.{Note}
use Rattle.msc_notes.specs.declared.note.Tag.{Tag}
use Rattle.msc_notes.specs.declared.note.Tag.TheVariants.{Behind, First, Opened}
use Rattle.msc_notes.specs.Notes.{word_of}

-- what stands behind the first word of a note
abbrev pub behind_word : List ℕ → List ℕ
behind_word [] = []
behind_word (b ∷ bs) = codes " " ++ (b ∷ bs)

-- the words of a note
abbrev pub note_words : Note → List ℕ
note_words n = word_of n.tag ++ behind_word n.text

-- the words of a note with this tag that stands at its place alone, without the place
abbrev pub placed_words : Tag → Note → List ℕ
placed_words Behind n = codes "what stands before ends here"
placed_words First n = codes "the first one stands here"
placed_words Opened n = codes "it is opened here"
placed_words tag n = note_words n

-- where a note stands: at its own place, at the first of its two, or at that of its fault; of a
-- fault without a place at the beginning of the text
abbrev pub stands_at : Option ℕ → Option (ℕ × ℕ) → Option ℕ → ℕ
stands_at (Some at) pair fault = at
stands_at None (Some p) fault = p.0
stands_at None None (Some at) = at
stands_at None None None = 0

-- a position of the text: that of a place, or of its end where that is past it
abbrev pub StandsAt : List ℕ → ℕ → Position → Type 0
StandsAt text at p = IsPosition text (min at (length text)) p.line p.column

-- the position of a fault: that of its place, or the beginning of the text where it has none
abbrev pub IsFaultPosition : List ℕ → Option ℕ → Position → Type 0
IsFaultPosition text None p = p ≡ beginning
IsFaultPosition text (Some at) p = StandsAt text at p

-- what stands before the line of a fault for editors
abbrev pub error_text : List ℕ → Position → List ℕ
error_text file p = place_text file p.line p.column ++ codes ": error: "

-- the line of a note for editors
abbrev pub note_line : List ℕ → Position → Note → List ℕ
note_line file p n = place_text file p.line p.column ++ (codes ": note: " ++ (placed_words n.tag n ++ codes "\n"))

-- What the notes on a fault know.
use Rattle.std.specs.Prelude.{ℕ, ◌==◌, Bool, cond, List, [], ◌∷◌, Option, None, Some, encode_utf8_all, find, flat_map, length}
use Rattle.std.specs.Str.{bytes_eq}
use Rattle.msc_notes.specs.declared.note.Note.{Note}
use Rattle.msc_notes.specs.declared.note.Tag.{Tag}
use Rattle.msc_notes.specs.declared.note.Tag.TheVariants as tags
use Rattle.msc_notes.specs.Notes.{word_of}
use Rattle.msc_spoken.specs.Showing.{shown_text}

-- a note is of this kind; kinds are told apart by their words
abbrev pub has_tag : Tag → Note → Bool
has_tag tag note = bytes_eq (word_of note.tag) (word_of tag)

abbrev pub note_with : Tag → List Note → Option Note
note_with tag notes = find (has_tag tag) notes

-- the text and the place of the first note of a kind
abbrev pub text_of : Option Note → List ℕ
text_of None = []
text_of (Some note) = note.text

abbrev pub place_of : Option Note → Option ℕ
place_of None = None
place_of (Some note) = note.place

abbrev pub note_text : Tag → List Note → List ℕ
note_text tag notes = text_of (note_with tag notes)

abbrev pub note_place : Tag → List Note → Option ℕ
note_place tag notes = place_of (note_with tag notes)

-- what is shown of bytes, and of the text of a note
abbrev pub shown_bytes : List ℕ → List ℕ
shown_bytes bytes = encode_utf8_all (shown_text bytes)

-- the hint of a note, if it is one
abbrev pub hint_of : Note → List (List ℕ)
hint_of note = cond (has_tag tags.Hint note) (shown_bytes note.text ∷ []) []

abbrev pub hints_in : List Note → List (List ℕ)
hints_in notes = flat_map hint_of notes

-- these helps, or this one if there are none
abbrev pub helps_or : List ℕ → List (List ℕ) → List (List ℕ)
helps_or text helps = cond (length helps == 0) (text ∷ []) helps

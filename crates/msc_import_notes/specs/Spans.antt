-- What is underlined of a refused import.
use Rattle.std.specs.Prelude.{ℕ, List, [], ◌∷◌, ◌++◌, Option, None, Some}
use Rattle.msc_fault_words.specs.Told.{note_place}
use Rattle.msc_notes.specs.declared.note.Note.{Note}
use Rattle.msc_notes.specs.declared.note.Tag.TheVariants as tags

-- a place, if there is one
abbrev pub place_if : Option ℕ → List ℕ
place_if None = []
place_if (Some at) = at ∷ []

-- where the underlined parts begin: at the place of the fault, at the part that has no end, and at the
-- block that is open
abbrev pub first_places : Option ℕ → List Note → List ℕ
first_places place notes =
    (place_if place ++ place_if (note_place tags.Opened notes)) ++ place_if (note_place tags.Inside notes)

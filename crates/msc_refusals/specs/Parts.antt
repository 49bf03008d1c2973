-- The parts of a text that are marked: names, and statements of events.
use Rattle.std.specs.Prelude.{ℕ, ◌+◌, ◌==◌, List, [], ◌∷◌, ◌++◌, Option, None, Some, cond, drop, find}
use Rattle.std.specs.List.{flat_map, prefix_len}
use Rattle.std.specs.Option.{option_map}
use Rattle.msc_fault_words.specs.declared.words.Span.{Span}
use Rattle.msc_lexer.specs.Bytes.{is_run_byte}
use Rattle.msc_notes.specs.declared.note.Note.{Note}
use Rattle.msc_place.specs.declared.places.EventPlace.{EventPlace}

-- the place after the word or the name at a place
abbrev pub name_past : List ℕ → ℕ → ℕ
name_past text at = at + prefix_len is_run_byte (drop at text)

-- an event whose statement begins at this place
abbrev pub begun : ℕ → Option EventPlace → Option EventPlace
begun at None = None
begun at (Some event) = cond (event.start == at) (Some event) None

-- the first of these events whose statement begins at a place, and the place after it
abbrev pub first_at : List EventPlace → ℕ → Option EventPlace
first_at events at = find (λ event. event.start == at) events

abbrev pub statement_past : List EventPlace → ℕ → Option ℕ
statement_past events at = option_map (λ event. event.«end») (first_at events at)

-- the part at a place: the statement of an event, or else a name
abbrev pub part_past : List ℕ → ℕ → Option ℕ → ℕ
part_past text at None = name_past text at
part_past text at (Some past) = past

abbrev pub span_at : List ℕ → List EventPlace → ℕ → Span
span_at text events at = record { first = at; past = part_past text at (statement_past events at) }

-- a place, if there is one
abbrev pub one_place : Option ℕ → List ℕ
one_place None = []
one_place (Some at) = at ∷ []

-- the place of a fault and those of the notes on it
abbrev pub places_of : Option ℕ → List Note → List ℕ
places_of place notes = one_place place ++ flat_map (λ note. one_place note.place) notes

-- What was expected in a diagram, in words.
use Rattle.std.specs.Prelude.{ℕ, ◌-◌, Bool, ◌&&◌, ◌||◌, cond, List, ◌++◌, Option, None, Some, codes, drop, find, length, option_map, take}
use Rattle.std.specs.Str.{bytes_eq}
use Rattle.msc_mermaid.specs.declared.fault.Expectation.{Expectation}
use Rattle.msc_mermaid.specs.declared.fault.Expectation.TheVariants as whats
use Rattle.msc_notes.specs.declared.note.Note.{Note}
use Rattle.msc_notes.specs.declared.note.Tag.TheVariants as tags
use Rattle.msc_fault_words.specs.Told.{has_tag, note_text, shown_bytes}

-- the last 23 bytes of a text, as many as ` is no sequence diagram` has
abbrev pub last_bytes : List ℕ → List ℕ
last_bytes text = drop (length text - 23) text

-- a note says of which other kind a text is
abbrev pub is_kind_hint : Note → Bool
is_kind_hint note = has_tag tags.Hint note && bytes_eq (last_bytes note.text) (codes " is no sequence diagram")

-- the word for this kind
abbrev pub kind_word : List Note → Option (List ℕ)
kind_word notes = option_map (λ note. take (length note.text - 23) note.text) (find is_kind_hint notes)

-- between double quotes
abbrev pub quoted : List ℕ → List ℕ
quoted text = codes "\"" ++ (text ++ codes "\"")

-- what was expected; signs and words of the text are between quotes
abbrev pub wanted : Expectation → List ℕ
wanted whats.Front = codes "\"---\""
wanted whats.Directive = codes "\"}%%\""
wanted whats.Description = codes "\"}\""
wanted whats.LineEnd = codes "the end of the line"
wanted whats.StatementEnd = codes "the end of the statement"
wanted whats.AnyDiagram = codes "a diagram"
wanted whats.Diagram = codes "\"sequenceDiagram\""
wanted whats.Statement = codes "a statement"
wanted whats.Name = codes "a name"
wanted whats.Label = codes "a label"

-- the end of a line or of the text was found
abbrev pub is_end : List ℕ → Bool
is_end found = bytes_eq found (codes "the end of the line") || bytes_eq found (codes "the end of the text")

abbrev pub found_text : List ℕ → List ℕ
found_text found = cond (is_end found) found (quoted found)

-- what was found, by the notes
abbrev pub found_in : List Note → List ℕ
found_in notes = found_text (shown_bytes (note_text tags.Found notes))

unfoldable pub other_text : List ℕ → List ℕ → List ℕ
other_text what found = codes "expected " ++ (what ++ (codes ", found " ++ found))

-- the text is of another kind
unfoldable pub kind_text : List ℕ → List ℕ
kind_text word = codes "\"" ++ (word ++ codes "\" is no sequence diagram")

-- a part of a diagram was expected, or the text is of this other kind
abbrev pub kind_sentence : Expectation → List Note → Option (List ℕ) → List ℕ
kind_sentence what notes None = other_text (wanted what) (found_in notes)
kind_sentence what notes (Some word) = kind_text (shown_bytes word)

abbrev pub of_kind : List Note → Expectation → List ℕ
of_kind notes what = kind_sentence what notes (kind_word notes)

-- a part of a diagram was expected
abbrev pub expected_text : List Note → Expectation → List ℕ
expected_text notes whats.Front = of_kind notes whats.Front
expected_text notes whats.Directive = of_kind notes whats.Directive
expected_text notes whats.Description = of_kind notes whats.Description
expected_text notes whats.LineEnd = of_kind notes whats.LineEnd
expected_text notes whats.StatementEnd = of_kind notes whats.StatementEnd
expected_text notes whats.AnyDiagram = of_kind notes whats.AnyDiagram
expected_text notes whats.Diagram = of_kind notes whats.Diagram
expected_text notes whats.Statement = codes "this is no statement of a sequence diagram"
expected_text notes whats.Name = of_kind notes whats.Name
expected_text notes whats.Label = codes "this arrow has no label"

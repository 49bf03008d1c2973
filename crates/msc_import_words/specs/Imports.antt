-- Faults of imports, in words.
use Rattle.std.specs.Prelude.{ℕ, ◌&&◌, cond, not, List, [], ◌∷◌, ◌++◌, Option, codes}
use Rattle.std.specs.List.{flat_map}
use Rattle.msc_diagnostic.specs.declared.mark.Sign.TheVariants.{Caret, Dash}
use Rattle.msc_diagnostic.specs.Plain.{Mark}
use Rattle.msc_mermaid.specs.Expectations.{closer_word}
use Rattle.msc_mermaid.specs.Keys.{head_text}
use Rattle.msc_mermaid.specs.declared.fault.ImportFault.{ImportFault}
use Rattle.msc_mermaid.specs.declared.fault.ImportFault.TheVariants as imports
use Rattle.msc_notes.specs.declared.note.Note.{Note}
use Rattle.msc_notes.specs.declared.note.Tag.TheVariants as tags
use Rattle.msc_fault_words.specs.Told.{has_tag, note_place, shown_bytes}
use Rattle.msc_fault_words.specs.Words.{Words, marks_at}
use Rattle.msc_fault_words.specs.declared.words.Span.{Span}
use Rattle.msc_import_words.specs.Expected.{expected_text, is_kind_hint}
use Rattle.msc_import_words.specs.Sentences.{choice_text, choices_text, diagrams_text, none_text, outside_text, scenarios_text, several_text, shared_text, unsupported_text}

-- the stage and the number of a fault
abbrev pub fault_id : ImportFault → List ℕ
fault_id imports.TooLong = codes "import 1"
fault_id (imports.Expected here what) = codes "import 2"
fault_id (imports.Unsupported here head) = codes "import 3"
fault_id (imports.Entity here) = codes "import 3"
fault_id (imports.Unended here) = codes "import 4"
fault_id (imports.Outside here word) = codes "import 5"
fault_id (imports.Stray here) = codes "import 5"
fault_id (imports.TooDeep here) = codes "import 6"
fault_id (imports.TooManyLines here) = codes "import 7"
fault_id (imports.TooManyScenarios limit) = codes "import 11"
fault_id (imports.Several count) = codes "import 12"
fault_id (imports.Choice here choice most) = codes "import 13"
fault_id (imports.TooManyChoices given met) = codes "import 14"
fault_id (imports.TooManyArrows here) = codes "import 15"
fault_id (imports.Shared here line) = codes "import 16"
fault_id (imports.NoDiagram number) = codes "import 17"
fault_id (imports.SeveralDiagrams count) = codes "import 20"
fault_id imports.Memory = codes "memory"

-- its sentence
abbrev pub sentence_of : List ℕ → List Note → ImportFault → List ℕ
sentence_of name notes imports.TooLong = codes "text longer than 1048576 bytes"
sentence_of name notes (imports.Expected here what) = expected_text notes what
sentence_of name notes (imports.Unsupported here head) = unsupported_text (head_text head)
sentence_of name notes (imports.Entity here) = unsupported_text (shown_bytes name)
sentence_of name notes (imports.Unended here) = codes "this block has no end"
sentence_of name notes (imports.Outside here word) = outside_text (closer_word word)
sentence_of name notes (imports.Stray here) = codes "\"sequenceDiagram\" stands outside of its block"
sentence_of name notes (imports.TooDeep here) = codes "more than 10 blocks inside each other"
sentence_of name notes (imports.TooManyLines here) = codes "more than 32 instances"
sentence_of name notes (imports.TooManyScenarios limit) = scenarios_text limit
sentence_of name notes (imports.Several count) = several_text count
sentence_of name notes (imports.Choice here choice most) = choice_text choice most
sentence_of name notes (imports.TooManyChoices given met) = choices_text given met
sentence_of name notes (imports.TooManyArrows here) = codes "more than 1024 arrows"
sentence_of name notes (imports.Shared here line) = shared_text (shown_bytes name)
sentence_of name notes (imports.NoDiagram number) = none_text number
sentence_of name notes (imports.SeveralDiagrams count) = diagrams_text count
sentence_of name notes imports.Memory = codes "out of memory"

-- the fault's place, where a part begins that has no end, and the block that is open
abbrev pub import_marks : Option ℕ → List Note → List Span → List Mark
import_marks place notes spans =
    (marks_at spans place Caret [] ++ marks_at spans (note_place tags.Opened notes) Dash (codes "opened here"))
    ++ marks_at spans (note_place tags.Inside notes) Dash (codes "this block is open")

abbrev pub marked : List ℕ → List ℕ → Option ℕ → List Note → List Span → Words
marked id sentence place notes spans =
    record { id = id; sentence = sentence; marks = import_marks place notes spans; helps = [] }

-- the question whether a word was meant
unfoldable pub meant_text : List ℕ → List ℕ
meant_text word = codes "is \"" ++ (shown_bytes word ++ codes "\" meant?")

-- what a note helps with; the hint that a text is of another kind is its sentence
abbrev pub import_help : Note → List (List ℕ)
import_help note =
    cond (has_tag tags.Nearest note) (meant_text note.text ∷ []) (
    cond (has_tag tags.Hint note && not (is_kind_hint note)) (shown_bytes note.text ∷ []) []
    )

abbrev pub import_helps : List Note → List (List ℕ)
import_helps notes = flat_map import_help notes

-- why a text is not imported
abbrev pub import : List ℕ → Option ℕ → List Note → List Span → ImportFault → Words
import name place notes spans fault = record {
  id = fault_id fault;
  sentence = sentence_of name notes fault;
  marks = import_marks place notes spans;
  helps = import_helps notes;
}

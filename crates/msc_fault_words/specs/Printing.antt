-- Refusals as diagnostics.
use Rattle.std.specs.Prelude.{ℕ, Bool, List, [], Option, map}
use Rattle.msc_diagnostic.specs.declared.diagnostic.Level.TheVariants.{Error}
use Rattle.msc_diagnostic.specs.declared.diagnostic.NoteKind.TheVariants.{Help}
use Rattle.msc_diagnostic.specs.declared.source.LineEnds.{LineEnds}
use Rattle.msc_diagnostic.specs.Blocks.{diagnostic_text}
use Rattle.msc_diagnostic.specs.Plain.{Diagnostic, Note}
use Rattle.msc_fault_words.specs.Words.{Words}

-- a help as a note
abbrev pub help_note : List ℕ → Note
help_note text = record { kind = Help; text = text; rows = [] }

-- a refusal as a diagnostic, at a place
abbrev pub diagnostic_of : Option (List ℕ) → Words → Diagnostic
diagnostic_of place w = record {
  level = Error;
  id = w.id;
  sentence = w.sentence;
  place = place;
  marks = w.marks;
  notes = map help_note w.helps;
}

abbrev pub words_text : Bool → LineEnds → List ℕ → Option (List ℕ) → Words → List ℕ
words_text colours ends text place w = diagnostic_text colours ends text (diagnostic_of place w)

use Rattle.std.proofs.Common.{◌≡◌, take}
use Rattle.msc_fault_words.specs.Words.{with_helps}
use Rattle.msc_import_words.specs.Imports.{import_helps}
use Rattle.msc_import_words.proofs.import_fault.help_all.Given as goal

-- the helps of the notes so far have been added
abbrev pub invariant-loop-note : goal.invariant-loop-note
invariant-loop-note l = l.words ≡ with_helps l.initial.words (import_helps (take l.note-index l.notes))

use Rattle.std.proofs.Common.{◌≡◌, map, take}
use Rattle.std.specs.String.{string_bytes}
use Rattle.msc_diagnostic.specs.Plain.{plain_note}
use Rattle.msc_fault_words.specs.Printing.{help_note}
use Rattle.msc_fault_words.proofs.printing.help_notes.Given as goal

-- the helps so far are notes
abbrev pub invariant-loop-help : goal.invariant-loop-help
invariant-loop-help l =
    map plain_note l.notes.items ≡ map help_note (map string_bytes (take l.help-index l.helps))

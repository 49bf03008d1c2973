use Rattle.std.proofs.Common.{◌≡◌, ◌++◌, map, take}
use Rattle.std.specs.List.{flat_map}
use Rattle.msc_diagnostic.specs.Plain.{plain_note}
use Rattle.msc_diagnostic.specs.Rows.{note_rows}
use Rattle.msc_diagnostic.proofs.frame.Frame.print_notes.Given as goal

abbrev pub invariant-loop-note : goal.invariant-loop-note
invariant-loop-note l = l.out.items ≡ l.initial.out.items ++ flat_map (note_rows l.self) (map plain_note (take l.note-index l.notes))

use Rattle.msc_answer.proofs.Extended.{extended, unchanged}
use Rattle.msc_answer.proofs.refused.print_notes.Goals as goal

pub loop-note-init : goal.loop-note-init
loop-note-init c = unchanged _

pub loop-note-preserved : goal.loop-note-preserved
loop-note-preserved c = extended _ _ _ c.loop-note.invariant (c.in_ok-print_note.ensures)

pub returns : goal.returns
returns c = c.loop-note.invariant

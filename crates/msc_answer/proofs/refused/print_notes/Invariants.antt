use Rattle.msc_answer.specs.Extending.{Extends}
use Rattle.msc_answer.proofs.refused.print_notes.Given as goal

abbrev pub invariant-loop-note : goal.invariant-loop-note
invariant-loop-note l = Extends l.initial.page.bytes.items l.page.bytes.items

use Rattle.msc_answer.specs.Extending.{Extends}
use Rattle.msc_answer.proofs.refused.print_further.Given as goal

abbrev pub invariant-loop-other : goal.invariant-loop-other
invariant-loop-other l = Extends l.initial.page.bytes.items l.page.bytes.items

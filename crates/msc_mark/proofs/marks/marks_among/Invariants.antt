use Rattle.msc_mark.proofs.Steps.{AreReadTo}
use Rattle.msc_mark.proofs.marks.marks_among.Given as goal

abbrev pub invariant-loop-i : goal.invariant-loop-i
invariant-loop-i l = AreReadTo l.text l.tokens l.i l.event l.list.items

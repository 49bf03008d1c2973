use Rattle.msc_mark.proofs.Rows.{AreRowsTo}
use Rattle.msc_mark.proofs.named.rows_of.Given as goal

abbrev pub invariant-loop-mark : goal.invariant-loop-mark
invariant-loop-mark l = AreRowsTo l.idents.keys l.marks l.mark-index l.rows.items

use Rattle.bit_rows.specs.Rows.{AreApartTo}
use Rattle.bit_rows.proofs.row.first_common.Given as goal

abbrev pub invariant-loop-k : goal.invariant-loop-k
invariant-loop-k l = AreApartTo l.one l.other l.k

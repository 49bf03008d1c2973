use Rattle.std.proofs.lemmas.Result.{IfOk-weaker}
use Rattle.bit_rows.proofs.Cells.{cell_blank}
use Rattle.bit_rows.proofs.table.blank.Goals as goal

pub returns-clause-none : goal.returns-clause-none
returns-clause-none c = IfOk-weaker c.zeros.result _ _ (λ v items x y. rw items (cell_blank c.args.n _ x y)) c.zeros.ensures

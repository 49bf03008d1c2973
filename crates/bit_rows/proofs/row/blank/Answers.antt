use Rattle.std.proofs.lemmas.Result.{IfOk-weaker}
use Rattle.bit_rows.proofs.Rows.{has_blank}
use Rattle.bit_rows.proofs.row.blank.Goals as goal

pub returns-clause-none : goal.returns-clause-none
returns-clause-none c = IfOk-weaker c.zeros.result _ _ (λ v items y. rw items (has_blank _ y)) c.zeros.ensures

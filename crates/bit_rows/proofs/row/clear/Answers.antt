use Rattle.bit_rows.proofs.Rows.{has_clear}
use Rattle.bit_rows.proofs.row.clear.Goals as goal

pub returns : goal.returns
returns c z = has_clear c.args.row.now c.args.y z c.requires

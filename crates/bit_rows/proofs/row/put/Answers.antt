use Rattle.bit_rows.proofs.Rows.{has_put}
use Rattle.bit_rows.proofs.row.put.Goals as goal

pub returns : goal.returns
returns c z = has_put c.args.row.now c.args.y z c.requires

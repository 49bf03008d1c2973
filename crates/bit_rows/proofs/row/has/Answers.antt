use Rattle.std.proofs.Common.{◌%◌, refl}
use Rattle.bit_rows.proofs.Bits.{bit_read}
use Rattle.bit_rows.specs.Rows.{has}
use Rattle.bit_rows.proofs.row.has.Goals as goal

pub returns : goal.returns
unfolding has
returns c = bit_read _ (c.args.y % 64) _ refl

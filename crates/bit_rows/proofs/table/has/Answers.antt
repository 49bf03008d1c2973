use Rattle.std.proofs.Common.{arith}
use Rattle.bit_rows.proofs.Bits.{words_enough}
use Rattle.bit_rows.proofs.table.has.Goals as goal

pub has-requires : goal.has-requires
has-requires c =
    let enough = words_enough c.args.n in
    let size = c.row_of.ensures.words in
    let below = c.requires.column in
    omega (arith, enough, size, below)

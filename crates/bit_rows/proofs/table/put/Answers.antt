use Rattle.bit_rows.proofs.Cells.{cell_put}
use Rattle.bit_rows.proofs.table.put.Goals as goal

pub returns : goal.returns
returns c x y = rw c.word_count.ensures.count (cell_put c.args.n c.args.words.now c.args.e c.args.f x y c.requires.row c.requires.column)

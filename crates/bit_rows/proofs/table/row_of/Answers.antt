use Rattle.bit_rows.proofs.Cells.{row_numbers}
use Rattle.bit_rows.proofs.table.row_of.Goals as goal

pub returns-clause-numbers : goal.returns-clause-numbers
returns-clause-numbers c y =
    rw c.word_count-count.ensures.count (row_numbers c.args.n c.args.words.now c.args.e c.requires.row y)

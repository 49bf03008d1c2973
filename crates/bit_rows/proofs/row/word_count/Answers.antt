use Rattle.std.proofs.Common.{rules}
use Rattle.bit_rows.specs.Rows.{word_count}
use Rattle.bit_rows.proofs.row.word_count.Goals as goal

pub returns-clause-count : goal.returns-clause-count
unfolding word_count
returns-clause-count c = search rules

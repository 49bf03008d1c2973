use Rattle.std.proofs.Common.{arith}
use Rattle.msc_report.proofs.MadeTexts.{block_put}
use Rattle.msc_report.proofs.race_line.print_block.Goals as goal

pub returns-clause-end : goal.returns-clause-end
returns-clause-end g c = omega (arith, c.requires.rising)

pub returns-clause-put : goal.returns-clause-put
returns-clause-put g c =
    rw c.copy_from_slice.ensures.after
    (block_put c.args.room.now c.args.bytes.now _ c.args.at c.args.from c.args.to g.row.N c.requires.rising c.requires.short c.requires.block (omega (arith, c.requires.room)))

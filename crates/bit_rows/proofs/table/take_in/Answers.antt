use Rattle.std.proofs.Common.{refl}
use Rattle.bit_rows.specs.Tables.{cell}
use Rattle.bit_rows.proofs.Bits.{clash}
use Rattle.bit_rows.proofs.Cells.{take_both}
use Rattle.bit_rows.proofs.table.take_in.Goals as goal

pub returns-then-wanted : goal.returns-then-wanted
returns-then-wanted c =
    take_both (cell c.args.n c.args.words.now) c.args.e c.args.f c.args.wanted (cell c.args.n c.merge.new.words) (cell c.args.n c.put.new.words)
    c.merge.ensures (λ h. c.put.ensures) (λ h. clash c.if-wanted.true h)

pub returns-else-wanted : goal.returns-else-wanted
returns-else-wanted c =
    take_both (cell c.args.n c.args.words.now) c.args.e c.args.f c.args.wanted (cell c.args.n c.merge.new.words) (cell c.args.n c.merge.new.words)
    c.merge.ensures (λ h. clash h c.if-wanted.false) (λ h x y. refl)

use Rattle.std.proofs.Common.{◌≡◌, ◌-◌, length, ap, arith}
use Rattle.msc_svg.proofs.RowLemmas.{all_numbers}
use Rattle.msc_svg.proofs.layout.row_numbers.Goals as goal

pub returns : goal.returns
returns c =
    let rows = c.args.scene.now.rows in
    let inv = c.loop-k.invariant in
    let left = length rows - c.loop-k.k in
    let none : left ≡ 0 = omega (arith, c.loop-k-test.false, ap length c.as_slice-rows.ensures) in
    all_numbers rows (length c.args.scene.now.spots) left c.loop-k.numbers.items none inv.long inv.each

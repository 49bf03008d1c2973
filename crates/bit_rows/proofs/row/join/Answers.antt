use Rattle.std.proofs.Common.{◌≡◌, ℕ, ◌<◌, length, get_or, ap, ◌∙◌, arith, bit_or}
use Rattle.bit_rows.proofs.Writes.{write_start, write_step, unwritten, join_past, all_written, has_join}
use Rattle.bit_rows.proofs.row.join.Goals as goal

pub loop-k-init : goal.loop-k-init
loop-k-init c w = write_start _ c.args.row.now w

pub loop-k-preserved : goal.loop-k-preserved
loop-k-preserved c w =
    let old : get_or c.loop-k.row c.loop-k.k 0 ≡ get_or c.args.row.now c.loop-k.k 0 = c.loop-k.invariant c.loop-k.k ∙ unwritten _ c.args.row.now c.loop-k.k in
    let same = c.loop-k.auto.row in
    let more = c.loop-k-test.true in
    let inside : c.loop-k.k < length c.loop-k.row = omega (arith, same, more) in
    write_step _ c.args.row.now c.loop-k.row c.loop-k.k _ inside
    (ap (λ (a : ℕ). bit_or a (get_or c.args.other.now c.loop-k.k 0)) old) c.loop-k.invariant w

pub returns : goal.returns
returns c =
    has_join c.args.row.now c.args.other.now c.loop-k.row
    (all_written _ c.args.row.now c.loop-k.row c.loop-k.k c.loop-k-test.false
    (λ w past. join_past c.args.row.now c.args.other.now w c.requires past) c.loop-k.invariant)

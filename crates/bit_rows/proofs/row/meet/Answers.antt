use Rattle.std.proofs.Common.{◌<◌, length, get_or, refl, arith}
use Rattle.bit_rows.proofs.Writes.{write_start, write_step, meet_past, all_written, has_meet}
use Rattle.bit_rows.proofs.row.meet.Goals as goal

pub loop-k-init : goal.loop-k-init
loop-k-init c w = write_start _ c.args.row.now w

pub loop-k-preserved : goal.loop-k-preserved
loop-k-preserved c w =
    let same = c.loop-k.auto.row in
    let more = c.loop-k-test.true in
    let inside : c.loop-k.k < length c.loop-k.row = omega (arith, same, more) in
    write_step _ c.args.row.now c.loop-k.row c.loop-k.k _ inside refl c.loop-k.invariant w

pub returns : goal.returns
returns c =
    let same = c.requires.one in
    has_meet c.args.one.now c.args.other.now c.loop-k.row
    (all_written _ c.args.row.now c.loop-k.row c.loop-k.k c.loop-k-test.false
    (λ w past. meet_past c.args.one.now (get_or c.args.other.now w 0) w (omega (arith, same, past))) c.loop-k.invariant)

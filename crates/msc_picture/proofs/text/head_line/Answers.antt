use Rattle.std.proofs.Common.{arith}
use Rattle.msc_picture.proofs.Ranges.{fold_next}
use Rattle.std.proofs.Common.{[]}
use Rattle.msc_picture.specs.Texts.{with_name}
use Rattle.msc_picture.proofs.text.head_line.Goals as goal

pub loop-i-preserved : goal.loop-i-preserved
loop-i-preserved c =
    fold_next (with_name c.args.scene.now c.args.c.now) [] 0 c.loop-i.i c.loop-i.i _ _ (omega arith)
    c.loop-i.invariant c.in_ok-put_name.ensures

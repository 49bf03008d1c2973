use Rattle.msc_picture.proofs.Ranges.{map_next}
use Rattle.msc_picture.specs.Columns.{first_gap}
use Rattle.msc_picture.proofs.columns.first_gaps.Goals as goal

pub loop-i-preserved : goal.loop-i-preserved
loop-i-preserved c =
    map_next (first_gap c.args.scene.now) c.loop-i.i _ _ _ c.loop-i.invariant c.in_ok-gap.ensures
    c.in_ok-push.ensures.items

use Rattle.msc_picture.proofs.Ranges.{map_next}
use Rattle.msc_svg.specs.Layouts.{gap}
use Rattle.msc_svg.proofs.measure.gaps_of.Goals as goal

pub loop-i-preserved : goal.loop-i-preserved
loop-i-preserved c =
    map_next (gap c.args.scene.now c.args.depths.now) c.loop-i.i _ _ _ c.loop-i.invariant
    c.in_ok-next.ensures c.in_ok-push.ensures.items

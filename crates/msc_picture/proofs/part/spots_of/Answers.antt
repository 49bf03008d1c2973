use Rattle.msc_picture.proofs.Ranges.{map_next}
use Rattle.msc_picture.specs.Scenes.{spot_of}
use Rattle.msc_picture.proofs.part.spots_of.Goals as goal

pub loop-e-preserved : goal.loop-e-preserved
loop-e-preserved c =
    map_next (spot_of c.args.chart.now) c.loop-e.e _ _ _ c.loop-e.invariant c.in_ok-next.ensures
    c.in_ok-push.ensures.items

use Rattle.msc_picture.proofs.Ranges.{map_next}
use Rattle.msc_picture.specs.Scenes.{arrow_of}
use Rattle.msc_picture.proofs.part.arrows_of.Goals as goal

pub loop-m-preserved : goal.loop-m-preserved
loop-m-preserved c =
    map_next (arrow_of c.args.chart.now) c.loop-m.m _ _ _ c.loop-m.invariant c.in_ok-next.ensures
    c.in_ok-push.ensures.items

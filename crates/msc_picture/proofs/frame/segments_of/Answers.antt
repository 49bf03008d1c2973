use Rattle.msc_chart.specs.Charts.{segment}
use Rattle.msc_picture.proofs.Ranges.{map_next}
use Rattle.msc_picture.proofs.frame.segments_of.Goals as goal

pub loop-e-preserved : goal.loop-e-preserved
loop-e-preserved c = map_next (segment c.args.chart.now.events) _ _ _ _ c.loop-e.invariant
    c.segment.ensures c.in_ok-push.ensures.items

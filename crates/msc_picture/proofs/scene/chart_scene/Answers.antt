use Rattle.std.proofs.Common.{[]}
use Rattle.msc_picture.specs.Frames.{chart_frame}
use Rattle.msc_picture.proofs.Parts.{drawn_known}
use Rattle.msc_picture.proofs.scene.chart_scene.Goals as goal

pub rows_of-requires : goal.rows_of-requires
rows_of-requires c =
    rw c.deref.ensures.value (drawn_known (chart_frame c.args.chart.now.events) _ [] _ c.in_ok-order.ensures.rules.steps)

use Rattle.std.proofs.Common.{[]}
use Rattle.msc_picture.specs.RunFrames.{run_frame}
use Rattle.msc_chart.specs.Wirings.{wired_by}
use Rattle.msc_picture.proofs.Parts.{drawn_known}
use Rattle.msc_picture.proofs.scene.run_scene.Goals as goal

pub rows_of-requires : goal.rows_of-requires
rows_of-requires c =
    rw c.deref.ensures.value (drawn_known (run_frame (wired_by c.args.w.now) c.args.run.now) _ [] _ c.in_ok-order.ensures.rules.steps)

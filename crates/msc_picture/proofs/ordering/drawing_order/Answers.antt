use Rattle.std.proofs.Common.{ℕ, List, Option, subst}
use Rattle.msc_picture.specs.Courses.{frame_of}
use Rattle.msc_picture.specs.Frames.{chart_frame, IsDrawingOrder}
use Rattle.msc_picture.proofs.Wholes.{frame_order, drawn_linear}
use Rattle.msc_picture.proofs.ordering.drawing_order.Goals as goal

pub returns-clause-rules : goal.returns-clause-rules
returns-clause-rules c =
    subst (λ (ranks : Option (List ℕ)). IsDrawingOrder (chart_frame c.args.chart.now.events) ranks
    c.in_ok-drawn.drawn.past.items) c.in_ok-f.ensures.ranks
    (frame_order (frame_of c.in_ok-f.f) c.args.chart.now.events _ _ _ c.in_ok-f.ensures.frame
    c.linear_order-order.ensures c.in_ok-drawn.ensures.held.steps c.in_ok-drawn.ensures.end)

pub returns-clause-linear : goal.returns-clause-linear
returns-clause-linear c =
    drawn_linear c.args.chart.now.events _ _
    (frame_order (frame_of c.in_ok-f.f) c.args.chart.now.events _ _ _ c.in_ok-f.ensures.frame
    c.linear_order-order.ensures c.in_ok-drawn.ensures.held.steps c.in_ok-drawn.ensures.end)

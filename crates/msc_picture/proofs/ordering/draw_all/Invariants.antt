use Rattle.std.proofs.Common.{true, length}
use Rattle.msc_chart.proofs.Left.{is_left}
use Rattle.msc_chart.proofs.Numbers.{count_below}
use Rattle.msc_picture.specs.Ready.{HoldsDrawing}
use Rattle.msc_picture.proofs.ordering.draw_all.Given as goal

abbrev pub invariant-loop-e : goal.invariant-loop-e
invariant-loop-e l = HoldsDrawing l.f l.drawing

abbrev pub decreases-loop-e : goal.decreases-loop-e
decreases-loop-e l =
    count_below (is_left (λ x. true) l.drawing.drawn.past.items) (length l.f.chart.now.events)

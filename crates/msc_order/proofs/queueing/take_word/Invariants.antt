use Rattle.std.proofs.Common.{◌*◌}
use Rattle.msc_chart.proofs.Numbers.{count_below}
use Rattle.msc_chart.specs.Wirings.{size, wired_by}
use Rattle.bit_rows.specs.Rows.{has}
use Rattle.msc_order.specs.Closing.{AreMoved, IsAbove}
use Rattle.msc_order.proofs.queueing.take_word.Given as goal

abbrev pub invariant-loop-left : goal.invariant-loop-left
invariant-loop-left l = record {
  moved : AreMoved (wired_by l.wiring) (has l.initial.left) (has l.left) (has l.initial.taken) (has l.taken);
  above : IsAbove (64 * l.k) (has l.left);
}

abbrev pub decreases-loop-left : goal.decreases-loop-left
decreases-loop-left l = count_below (has l.left) (size l.wiring)

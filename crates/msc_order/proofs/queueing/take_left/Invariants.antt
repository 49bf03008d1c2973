use Rattle.std.proofs.Common.{◌*◌}
use Rattle.msc_chart.specs.Wirings.{wired_by}
use Rattle.bit_rows.specs.Rows.{has}
use Rattle.msc_order.specs.Closing.{AreMoved, IsAbove}
use Rattle.msc_order.proofs.queueing.take_left.Given as goal

abbrev pub invariant-loop-k : goal.invariant-loop-k
invariant-loop-k l = record {
  moved : AreMoved (wired_by l.wiring) (has l.initial.left) (has l.left) (has l.initial.taken) (has l.taken);
  above : IsAbove (64 * l.k) (has l.left);
}

use Rattle.std.proofs.Common.{◌≡◌, ℕ, ◌-◌, true, length}
use Rattle.msc_chart.specs.Charts.{is_output}
use Rattle.msc_chart.specs.Orders.{queue}
use Rattle.msc_chart.specs.Wirings.{size, wired_by}
use Rattle.bit_rows.specs.Rows.{has}
use Rattle.bit_rows.specs.Tables.{cell}
use Rattle.msc_order.specs.Closing.{IsBetween, HasSeen, IsBehind, IsTaken}
use Rattle.msc_order.proofs.queueing.add_queues.Given as goal

abbrev pub invariant-loop-done : goal.invariant-loop-done
invariant-loop-done l = record {
  between : IsBetween (wired_by l.wiring) (cell (size l.wiring) l.words);
  last : IsTaken (wired_by l.wiring) (has l.kept) (has l.taken);
  shown : HasSeen (wired_by l.wiring) (cell (size l.wiring) l.words) (cell (size l.wiring) l.masks);
  behind : (c : ℕ) → is_output l.wiring.chart.now.events c ≡ true → IsBehind l.order (length l.order - l.done) c
      → cell (size l.wiring) l.masks (queue (wired_by l.wiring) c) c ≡ true;
}

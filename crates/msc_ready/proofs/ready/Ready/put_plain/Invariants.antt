use Rattle.std.proofs.Common.{◌≡◌, ◌<◌, ℕ, true, length}
use Rattle.bit_rows.specs.Tables.{cell}
use Rattle.msc_order.specs.Closing.{HoldsOnly, Keeps}
use Rattle.msc_ready.specs.Held.{ready_of, wiring_of}
use Rattle.msc_ready.specs.Plain.{Plain}
use Rattle.msc_ready.specs.Readiness.{ReadyOrder}
use Rattle.msc_ready.proofs.ready.Ready.put_plain.Given as goal

abbrev pub invariant-loop-y : goal.invariant-loop-y
invariant-loop-y l = record {
  sound : HoldsOnly (ReadyOrder (wiring_of l.self) (ready_of l.lines)) (cell (length l.self.chart.events) l.rows);
  kept : Keeps (cell (length l.self.chart.events) l.initial.rows) (cell (length l.self.chart.events) l.rows);
  row : (z : ℕ) → z < l.y → Plain (wiring_of l.self) (ready_of l.lines) l.x z → cell (length l.self.chart.events) l.rows l.x z ≡ true;
}

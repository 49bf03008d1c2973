use Rattle.std.proofs.Common.{◌≡◌, ◌<◌, ◌*◌, ℕ, length}
use Rattle.bit_rows.specs.Rows.{word_count}
use Rattle.bit_rows.specs.Tables.{cell}
use Rattle.msc_order.specs.Closing.{HoldsOnly}
use Rattle.msc_ready.specs.Held.{ready_of, wiring_of}
use Rattle.msc_ready.specs.Readiness.{ReadyOrder}
use Rattle.msc_ready.specs.Rows.{HasOver, HasPlain}
use Rattle.msc_ready.proofs.ready.Ready.fill.Given as goal

abbrev pub invariant-loop-x : goal.invariant-loop-x
invariant-loop-x l = record {
  square : length l.rows ≡ length l.self.chart.events * word_count (length l.self.chart.events);
  sound : HoldsOnly (ReadyOrder (wiring_of l.self) (ready_of l.lines)) (cell (length l.self.chart.events) l.rows);
  plain : (z : ℕ) → z < l.x → HasPlain (wiring_of l.self) (ready_of l.lines) l.rows z;
}

abbrev pub invariant-loop-x-2 : goal.invariant-loop-x-2
invariant-loop-x-2 l = record {
  square : length l.rows ≡ length l.self.chart.events * word_count (length l.self.chart.events);
  sound : HoldsOnly (ReadyOrder (wiring_of l.self) (ready_of l.lines)) (cell (length l.self.chart.events) l.rows);
  plain : (z : ℕ) → z < length l.self.chart.events → HasPlain (wiring_of l.self) (ready_of l.lines) l.rows z;
  over : (z : ℕ) → z < l.x → HasOver (wiring_of l.self) (ready_of l.lines) l.rows z;
}

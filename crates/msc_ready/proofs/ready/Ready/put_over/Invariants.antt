use Rattle.std.proofs.Common.{◌≡◌, ◌<◌, ℕ, true, length}
use Rattle.bit_rows.specs.Tables.{cell}
use Rattle.msc_order.specs.Closing.{HoldsOnly, Keeps}
use Rattle.msc_ready.specs.Held.{ready_of, wiring_of}
use Rattle.msc_ready.specs.Plain.{AreMates, IsPlainUpTo}
use Rattle.msc_ready.specs.Readiness.{ReadyOrder}
use Rattle.msc_ready.proofs.ready.Ready.put_over.Given as goal

abbrev pub invariant-loop-u : goal.invariant-loop-u
invariant-loop-u l = record {
  sound : HoldsOnly (ReadyOrder (wiring_of l.self) (ready_of l.lines)) (cell (length l.self.chart.events) l.rows);
  kept : Keeps (cell (length l.self.chart.events) l.initial.rows) (cell (length l.self.chart.events) l.rows);
  over : (v : ℕ) → v < l.u → AreMates (wiring_of l.self) (ready_of l.lines) l.x v
      → (y : ℕ) → y < length l.self.chart.events → IsPlainUpTo (wiring_of l.self) (ready_of l.lines) v y
      → cell (length l.self.chart.events) l.rows l.x y ≡ true;
}

use Rattle.std.proofs.Common.{ℕ, ◌-◌, ◌<◌, length}
use Rattle.msc_order.specs.Caused.{Led}
use Rattle.msc_order.specs.Closing.{AreBegun, HasRowOf, IsBehind}
use Rattle.bit_rows.specs.Tables.{cell}
use Rattle.msc_order.proofs.closing.add_rows.Given as goal

abbrev pub invariant-loop-done : goal.invariant-loop-done
invariant-loop-done l = record {
  begun : AreBegun l.chart.events l.inputs l.words l.begun;
  rows : (x : ℕ) → x < length l.chart.events → IsBehind l.order (length l.order - l.done) x
      → HasRowOf (Led l.chart.events l.inputs) (cell (length l.chart.events) l.words) x;
}

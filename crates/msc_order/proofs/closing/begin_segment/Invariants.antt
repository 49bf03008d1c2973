use Rattle.std.proofs.Common.{length, ◌≡◌, ℕ, true}
use Rattle.msc_order.specs.Closing.{AreBegun, Keeps, LedByLine}
use Rattle.bit_rows.specs.Rows.{has}
use Rattle.bit_rows.specs.Tables.{cell}
use Rattle.msc_order.proofs.closing.begin_segment.Given as goal

abbrev pub invariant-loop-passed : goal.invariant-loop-passed
invariant-loop-passed l = record {
  begun : AreBegun l.chart.events l.inputs l.words l.begun;
  kept : Keeps (cell (length l.chart.events) l.fn.words) (cell (length l.chart.events) l.words);
  here : has l.begun l.e ≡ true;
  within : (y : ℕ) → cell (length l.chart.events) l.words l.e y ≡ true → LedByLine l.chart.events l.inputs l.e y;
}

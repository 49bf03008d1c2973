use Rattle.std.proofs.Common.{length, ◌≡◌, ℕ, ◌<◌, ◌≤◌, ◌||◌, true}
use Rattle.msc_chart.specs.Charts.{is_controlled}
use Rattle.msc_order.specs.Closing.{KeepsOthers, LedByLine}
use Rattle.bit_rows.specs.Tables.{cell}
use Rattle.msc_order.proofs.closing.add_lines.Given as goal

abbrev pub invariant-loop-f : goal.invariant-loop-f
invariant-loop-f l = record {
  others : KeepsOthers l.e (cell (length l.chart.events) l.initial.words) (cell (length l.chart.events) l.words);
  within : (y : ℕ) → cell (length l.chart.events) l.words l.e y ≡ true → LedByLine l.chart.events l.inputs l.e y;
  taken : (g : ℕ) → l.start ≤ g → g < l.f
      → ((l.inputs || is_controlled l.chart.events g) ≡ true → cell (length l.chart.events) l.words l.e g ≡ true)
      × ((y : ℕ) → cell (length l.chart.events) l.initial.words g y ≡ true → cell (length l.chart.events) l.words l.e y ≡ true);
}

use Rattle.std.proofs.Common.{◌≡◌, ℕ, ◌*◌, ◌<◌, true, length}
use Rattle.bit_rows.specs.Rows.{word_count}
use Rattle.bit_rows.specs.Tables.{cell}
use Rattle.msc_chart.specs.Orders.{wired}
use Rattle.msc_follow.specs.Steps.{leads}
use Rattle.msc_follow.proofs.table.steps_of.Given as goal

-- the table has steps alone, and all those from the events so far
abbrev pub invariant-loop-x : goal.invariant-loop-x
invariant-loop-x l = record {
  square : length l.words.items ≡ length l.chart.events * word_count (length l.chart.events);
  sound : (z y : ℕ) → cell (length l.chart.events) l.words.items z y ≡ true → leads (wired l.wiring.queues l.chart) z y ≡ true;
  complete : (z y : ℕ) → z < l.x → leads (wired l.wiring.queues l.chart) z y ≡ true → cell (length l.chart.events) l.words.items z y ≡ true;
}

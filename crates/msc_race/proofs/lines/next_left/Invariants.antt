use Rattle.std.proofs.Common.{◌≡◌, ℕ, ◌<◌, ◌≤◌, false}
use Rattle.msc_chart.specs.Charts.{line}
use Rattle.bit_rows.specs.Rows.{has}
use Rattle.msc_race.proofs.lines.next_left.Given as goal

abbrev pub invariant-loop-f : goal.invariant-loop-f
invariant-loop-f l =
    (y : ℕ) → l.start ≤ y → y < l.f
    → (line l.choice.wiring.chart.now.events y ≡ l.i) × (has l.left y ≡ false)

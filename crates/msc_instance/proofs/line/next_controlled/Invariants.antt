use Rattle.std.proofs.Common.{◌≡◌, ℕ, ◌<◌, ◌≤◌, false}
use Rattle.msc_chart.specs.Charts.{is_controlled}
use Rattle.msc_instance.proofs.line.next_controlled.Given as goal

abbrev pub invariant-loop-e : goal.invariant-loop-e
invariant-loop-e l = (k : ℕ) → l.fn.from ≤ k → k < l.e → is_controlled l.chart.events k ≡ false

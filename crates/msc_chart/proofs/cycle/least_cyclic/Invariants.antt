use Rattle.std.proofs.Common.{◌≡◌, ℕ, ◌<◌, vec_len}
use Rattle.msc_chart.specs.Charts.{Visual}
use Rattle.msc_chart.proofs.cycle.least_cyclic.Given as goal

abbrev pub invariant-loop-e : goal.invariant-loop-e
invariant-loop-e l = record {
  len : vec_len l.low ≡ l.lines;
  none : (d : ℕ) → d < l.e → Visual l.events d d → ⊥;
}

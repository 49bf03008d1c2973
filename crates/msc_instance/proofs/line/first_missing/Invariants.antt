use Rattle.std.proofs.Common.{◌≡◌, ℕ, ◌<◌, ◌≤◌, true}
use Rattle.msc_chart.specs.Lists.{occurs}
use Rattle.msc_instance.proofs.line.first_missing.Given as goal

abbrev pub invariant-loop-e : goal.invariant-loop-e
invariant-loop-e l = (k : ℕ) → l.fn.from ≤ k → k < l.e → occurs l.journal.log.items k ≡ true

use Rattle.std.proofs.Common.{ℕ, ◌<◌}
use Rattle.msc_chart.specs.Lists.{StandsAt}
use Rattle.msc_answer.proofs.readied.has_instance.Given as goal

-- none of the instances so far has the name
abbrev pub invariant-loop-i : goal.invariant-loop-i
invariant-loop-i l = (k : ℕ) → k < l.i → StandsAt l.chart.instances k l.name → ⊥

use Rattle.std.proofs.Common.{map, ◌<◌, ℕ}
use Rattle.std.specs.Map.Iter.{deref}
use Rattle.msc_chart.specs.Faults.{IsUnknown, HoldsAt}
use Rattle.msc_chart.proofs.check.unknown_header.Given as goal

abbrev pub invariant-loop-k : goal.invariant-loop-k
invariant-loop-k l = (k : ℕ) → k < l.k → HoldsAt (IsUnknown (map deref l.instances.keys)) (map (λ d. d.name) l.header) k → ⊥

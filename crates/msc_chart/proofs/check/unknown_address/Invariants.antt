use Rattle.std.proofs.Common.{map, ◌<◌, ℕ}
use Rattle.std.specs.Map.Iter.{deref}
use Rattle.msc_chart.specs.Events.{address_of}
use Rattle.msc_chart.specs.Views.{mark_view}
use Rattle.msc_chart.specs.Faults.{IsUnknown, HoldsAt, OfEnd}
use Rattle.msc_chart.proofs.check.unknown_address.Given as goal

abbrev pub invariant-loop-e : goal.invariant-loop-e
invariant-loop-e l = (k : ℕ) → k < l.e → HoldsAt (OfEnd (λ x. IsUnknown (map deref l.instances.keys) (address_of x))) (map mark_view l.marks) k → ⊥

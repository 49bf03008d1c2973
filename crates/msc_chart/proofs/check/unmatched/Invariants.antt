use Rattle.std.proofs.Common.{map, ◌<◌, ℕ}
use Rattle.msc_chart.specs.Views.{mark_view}
use Rattle.msc_chart.specs.Faults.{HoldsAt, IsUnmatched, OfEnd}
use Rattle.msc_chart.proofs.check.unmatched.Given as goal

abbrev pub invariant-loop-e : goal.invariant-loop-e
invariant-loop-e l =
    (k : ℕ) → k < l.e
    → HoldsAt (OfEnd (IsUnmatched l.sends (map mark_view l.marks))) (map mark_view l.marks) k → ⊥

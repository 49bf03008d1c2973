use Rattle.std.proofs.Common.{◌≤◌}
use Rattle.msc_chart.specs.Sortings.{IsSorting}
use Rattle.msc_chart.proofs.linear.put_segment.Given as goal

abbrev pub invariant-loop-x : goal.invariant-loop-x
invariant-loop-x l = record {
  sorting : IsSorting l.events l.sorting;
  left : l.sorting.left ≤ l.initial.sorting.left;
}

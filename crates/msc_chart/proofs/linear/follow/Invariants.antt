use Rattle.std.proofs.Common.{◌≤◌, ◌-◌, length}
use Rattle.msc_chart.specs.Sortings.{IsSorting}
use Rattle.msc_chart.proofs.linear.follow.Given as goal

abbrev pub invariant-loop-place : goal.invariant-loop-place
invariant-loop-place l = record {
  sorting : IsSorting l.events l.sorting;
  left : l.sorting.left ≤ l.initial.sorting.left;
}

abbrev pub decreases-loop-place : goal.decreases-loop-place
decreases-loop-place l = length l.events - l.place

use Rattle.std.proofs.Common.{◌<◌, ◌≤◌}
use Rattle.std.specs.Bool.{OnTrue, OnFalse}
use Rattle.msc_chart.specs.Sortings.{IsSorting, IsStuckBelow}
use Rattle.msc_chart.proofs.linear.sweep.Given as goal

abbrev pub invariant-loop-e : goal.invariant-loop-e
invariant-loop-e l = record {
  sorting : IsSorting l.events l.sorting;
  put : OnTrue l.changed (l.sorting.left < l.initial.sorting.left);
  left : l.sorting.left ≤ l.initial.sorting.left;
  stuck : OnFalse l.changed (IsStuckBelow l.events l.sorting.is_put.items l.e);
}

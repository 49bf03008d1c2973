use Rattle.std.proofs.Common.{◌+◌, cond, length}
use Rattle.std.specs.Bool.{OnFalse}
use Rattle.msc_chart.specs.Sortings.{IsSorting, IsStuckBelow}
use Rattle.msc_chart.proofs.linear.whole_sorting.Given as goal

abbrev pub invariant-loop-changed : goal.invariant-loop-changed
invariant-loop-changed l = record {
  sorting : IsSorting l.events l.sorting;
  stuck : OnFalse l.changed (IsStuckBelow l.events l.sorting.is_put.items (length l.events));
}

abbrev pub decreases-loop-changed : goal.decreases-loop-changed
decreases-loop-changed l = l.sorting.left + cond l.changed 1 0

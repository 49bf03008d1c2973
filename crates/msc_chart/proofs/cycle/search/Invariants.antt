use Rattle.std.proofs.Common.{◌+◌, sum, length, cond}
use Rattle.std.specs.Bool.{OnFalse}
use Rattle.msc_chart.specs.Reach.{AreReached, AreClosedBelow}
use Rattle.msc_chart.proofs.cycle.search.Given as goal

abbrev pub invariant-loop-changed : goal.invariant-loop-changed
invariant-loop-changed l = record {
  sound : AreReached l.events l.e l.low;
  closed : OnFalse l.changed (AreClosedBelow l.events l.e l.low (length l.events));
}

abbrev pub decreases-loop-changed : goal.decreases-loop-changed
decreases-loop-changed l = sum l.low + cond l.changed 1 0

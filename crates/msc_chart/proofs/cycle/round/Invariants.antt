use Rattle.std.proofs.Common.{◌≡◌, ◌<◌, sum}
use Rattle.std.specs.Bool.{OnTrue, OnFalse}
use Rattle.msc_chart.specs.Reach.{AreReached, AreClosedBelow}
use Rattle.msc_chart.proofs.cycle.round.Given as goal

abbrev pub invariant-loop-s : goal.invariant-loop-s
invariant-loop-s l = record {
  sound : AreReached l.events l.e l.low;
  lowered : OnTrue l.changed (sum l.low < sum l.initial.low);
  same : OnFalse l.changed (l.low ≡ l.initial.low);
  closed : OnFalse l.changed (AreClosedBelow l.events l.e l.low l.s);
}

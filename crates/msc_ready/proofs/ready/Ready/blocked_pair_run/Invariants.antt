use Rattle.std.proofs.Common.{[], length}
use Rattle.msc_chart.specs.Lists.{Steps}
use Rattle.msc_ready.specs.Beginnings.{HoldsRun}
use Rattle.msc_ready.specs.Held.{wiring_of, ready_in}
use Rattle.msc_ready.specs.Running.{HasOutputsUpTo, IsBlockedPairNext}
use Rattle.msc_ready.proofs.Shared.{count_below, is_left}
use Rattle.msc_ready.proofs.Runs.Growing.{everything}
use Rattle.msc_ready.proofs.ready.Ready.blocked_pair_run.Given as goal

abbrev pub invariant-loop-x : goal.invariant-loop-x
invariant-loop-x l = record {
  held : HoldsRun l.self l.beginning;
  witness : Steps (IsBlockedPairNext (wiring_of l.self) (ready_in l.self) l.t) [] l.beginning.run.items;
  sent : HasOutputsUpTo (wiring_of l.self) (ready_in l.self) l.t l.beginning.run.items;
}

abbrev pub decreases-loop-x : goal.decreases-loop-x
decreases-loop-x l = count_below (is_left everything l.beginning.run.items) (length l.self.chart.events)

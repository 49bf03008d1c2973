use Rattle.std.proofs.Common.{ℕ, List, [], length}
use Rattle.msc_chart.specs.Lists.{IsLeast, Steps}
use Rattle.msc_ready.specs.Beginnings.{HoldsRun}
use Rattle.msc_ready.specs.Finishing.{MayComeInTurn}
use Rattle.msc_ready.specs.Held.{wiring_of, ready_in}
use Rattle.msc_ready.proofs.Shared.{count_below, is_left}
use Rattle.msc_ready.proofs.Runs.Growing.{everything}
use Rattle.msc_ready.proofs.ready.Ready.finishing_run.Given as goal

abbrev pub invariant-loop-x : goal.invariant-loop-x
invariant-loop-x l = record {
  held : HoldsRun l.self l.beginning;
  least : Steps (λ (past : List ℕ). IsLeast (MayComeInTurn (wiring_of l.self) (ready_in l.self) past)) [] l.beginning.run.items;
}

abbrev pub decreases-loop-x : goal.decreases-loop-x
decreases-loop-x l = count_below (is_left everything l.beginning.run.items) (length l.self.chart.events)

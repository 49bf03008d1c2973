use Rattle.std.proofs.Common.{length}
use Rattle.msc_race.specs.Beginnings.{IsWitnessSoFar, run_of}
use Rattle.msc_race.proofs.Shared.{count_below}
use Rattle.msc_chart.proofs.Left.{is_left}
use Rattle.msc_race.proofs.Runs.WholeRuns.{everything}
use Rattle.msc_race.proofs.enforced.Enforced.witness_run.Given as goal

abbrev pub invariant-loop-x : goal.invariant-loop-x
invariant-loop-x l = IsWitnessSoFar l.choice l.beginning

abbrev pub decreases-loop-x : goal.decreases-loop-x
decreases-loop-x l = count_below (is_left everything (run_of l.beginning)) (length l.self.chart.events)

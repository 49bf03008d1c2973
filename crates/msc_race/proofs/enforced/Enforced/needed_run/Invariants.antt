use Rattle.std.proofs.Common.{length}
use Rattle.msc_race.specs.Shortenings.{IsShortSoFar, events_of}
use Rattle.msc_race.proofs.Shared.{count_below}
use Rattle.msc_chart.proofs.Left.{is_left}
use Rattle.msc_race.proofs.Runs.WholeRuns.{everything}
use Rattle.msc_race.proofs.enforced.Enforced.needed_run.Given as goal

abbrev pub invariant-loop-x : goal.invariant-loop-x
invariant-loop-x l = IsShortSoFar l.choice l.shortening

abbrev pub decreases-loop-x : goal.decreases-loop-x
decreases-loop-x l = count_below (is_left everything (events_of l.shortening)) (length l.self.chart.events)

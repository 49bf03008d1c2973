use Rattle.msc_execution.proofs.Settling.InHand.{settled_runs}
use Rattle.msc_execution.proofs.laws.settled_runs_are_executions.Goals as goal

pub returns : goal.returns
returns c = settled_runs

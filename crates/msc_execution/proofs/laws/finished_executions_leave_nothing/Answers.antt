use Rattle.msc_execution.proofs.Settling.Executed.{finished_empty}
use Rattle.msc_execution.proofs.laws.finished_executions_leave_nothing.Goals as goal

pub returns : goal.returns
returns c = finished_empty

use Rattle.msc_execution.proofs.Settling.InHand.{hold_queues}
use Rattle.msc_execution.proofs.laws.runs_hold_queues.Goals as goal

pub returns : goal.returns
returns c = hold_queues

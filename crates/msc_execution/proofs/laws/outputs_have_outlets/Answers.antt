use Rattle.msc_execution.proofs.Wiring.Fitted.{have_outlets}
use Rattle.msc_execution.proofs.laws.outputs_have_outlets.Goals as goal

pub returns : goal.returns
returns c = have_outlets

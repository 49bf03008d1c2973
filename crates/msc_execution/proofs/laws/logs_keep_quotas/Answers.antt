use Rattle.msc_execution.proofs.Wiring.Fitted.{keep_quotas}
use Rattle.msc_execution.proofs.laws.logs_keep_quotas.Goals as goal

pub returns : goal.returns
returns c = keep_quotas

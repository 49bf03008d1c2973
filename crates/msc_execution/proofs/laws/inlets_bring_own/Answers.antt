use Rattle.msc_execution.proofs.Wiring.Fitted.{bring_own}
use Rattle.msc_execution.proofs.laws.inlets_bring_own.Goals as goal

pub returns : goal.returns
returns c = bring_own

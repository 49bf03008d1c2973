use Rattle.msc_execution.proofs.Wiring.Fitted.{fits}
use Rattle.msc_execution.proofs.laws.wirings_fit.Goals as goal

pub returns : goal.returns
returns c = fits

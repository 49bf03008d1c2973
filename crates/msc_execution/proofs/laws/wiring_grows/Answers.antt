use Rattle.msc_execution.proofs.Wiring.Growing.{grows}
use Rattle.msc_execution.proofs.laws.wiring_grows.Goals as goal

pub returns : goal.returns
returns c = grows

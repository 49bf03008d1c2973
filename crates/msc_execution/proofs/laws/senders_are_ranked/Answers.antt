use Rattle.msc_execution.proofs.Wiring.Ranked.{ranked}
use Rattle.msc_execution.proofs.laws.senders_are_ranked.Goals as goal

pub returns : goal.returns
returns c = ranked

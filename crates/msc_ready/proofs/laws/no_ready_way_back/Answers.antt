use Rattle.msc_ready.proofs.Repeating.Laws.{no_ready_way_back}
use Rattle.msc_ready.proofs.laws.no_ready_way_back.Goals as goal

pub returns : goal.returns
returns c = no_ready_way_back

use Rattle.msc_ready.proofs.Repeating.Laws.{rounds_finish_by_one, rounds_ring_by_one}
use Rattle.msc_ready.proofs.laws.rounds_finish_by_one.Goals as goal

pub returns : goal.returns
returns c = record { rings = rounds_ring_by_one; finish = rounds_finish_by_one }

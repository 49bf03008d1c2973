use Rattle.msc_reason.proofs.RoundsClosest.{closest_of_rounds}
use Rattle.msc_reason.proofs.laws.closest_races_of_rounds.Goals as goal

pub returns : goal.returns
returns c = closest_of_rounds c.rounds_by_two.ensures.closest

use Rattle.msc_scenarios.proofs.FollowWalkLemmas.{each_is_whole}
use Rattle.msc_scenarios.proofs.laws.each_is_whole.Goals as goal

pub returns : goal.returns
returns c = each_is_whole

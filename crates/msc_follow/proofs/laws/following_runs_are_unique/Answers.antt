use Rattle.msc_follow.proofs.Drawings.{following_unique}
use Rattle.msc_follow.proofs.laws.following_runs_are_unique.Goals as goal

pub returns : goal.returns
returns c = following_unique

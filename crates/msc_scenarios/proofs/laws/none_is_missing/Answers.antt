use Rattle.msc_scenarios.proofs.CoverWalkLemmas.{none_missing}
use Rattle.msc_scenarios.proofs.laws.none_is_missing.Goals as goal

pub returns : goal.returns
returns c = none_missing

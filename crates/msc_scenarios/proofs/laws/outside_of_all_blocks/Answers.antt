use Rattle.msc_scenarios.proofs.OutsideLemmas.{outside_met}
use Rattle.msc_scenarios.proofs.laws.outside_of_all_blocks.Goals as goal

pub returns : goal.returns
returns c = outside_met

use Rattle.msc_chart.proofs.RoundEventLaws.{in_one_round, in_each_round}
use Rattle.msc_chart.proofs.laws.rounds_are_numbered.Goals as goal

pub returns : goal.returns
returns c = record { one = in_one_round; each = in_each_round }

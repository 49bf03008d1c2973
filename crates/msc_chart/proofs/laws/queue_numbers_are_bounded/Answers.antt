use Rattle.msc_chart.proofs.QueueLemmas.{number_bounded, bound_small}
use Rattle.msc_chart.proofs.laws.queue_numbers_are_bounded.Goals as goal

pub returns : goal.returns
returns c = record { numbers = number_bounded; few = bound_small }

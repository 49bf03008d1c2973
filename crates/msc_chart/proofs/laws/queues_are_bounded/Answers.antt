use Rattle.msc_chart.proofs.QueueLemmas.{bounded}
use Rattle.msc_chart.proofs.laws.queues_are_bounded.Goals as goal

pub returns : goal.returns
returns c = bounded

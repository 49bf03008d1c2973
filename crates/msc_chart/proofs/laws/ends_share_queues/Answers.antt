use Rattle.msc_chart.proofs.QueueLemmas.{ends_share}
use Rattle.msc_chart.proofs.laws.ends_share_queues.Goals as goal

pub returns : goal.returns
returns c = ends_share

use Rattle.msc_chart.proofs.QueueLemmas.{links_decide}
use Rattle.msc_chart.proofs.laws.links_decide_on_queues.Goals as goal

pub returns : goal.returns
returns c queues d k m accepted k_in m_in = links_decide d accepted k m k_in m_in queues

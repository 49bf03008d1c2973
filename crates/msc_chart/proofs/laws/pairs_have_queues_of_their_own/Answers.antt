use Rattle.msc_chart.proofs.QueueLemmas.{own_queues}
use Rattle.msc_chart.proofs.laws.pairs_have_queues_of_their_own.Goals as goal

pub returns : goal.returns
returns c d k m accepted k_in m_in = own_queues d accepted k m k_in m_in

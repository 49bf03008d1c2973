use Rattle.msc_chart.proofs.QueueLemmas.{one_kind}
use Rattle.msc_chart.proofs.laws.one_kind_is_the_old_rule.Goals as goal

pub returns : goal.returns
returns c links kind d k m accepted k_in m_in = one_kind d accepted k m k_in m_in links kind

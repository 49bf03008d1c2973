use Rattle.msc_chart.specs.Orders.{wired}
use Rattle.msc_reason.proofs.ChainLemmas.{why_enough, why_exists}
use Rattle.msc_reason.proofs.laws.a_why_is_enough.Goals as goal

pub returns : goal.returns
returns c = record {
  enough = λ queues d accepted. why_enough (wired queues d) (c.ends_share_queues.ensures queues d accepted);
  exists = λ queues d accepted. why_exists (wired queues d) (c.ends_share_queues.ensures queues d accepted);
}

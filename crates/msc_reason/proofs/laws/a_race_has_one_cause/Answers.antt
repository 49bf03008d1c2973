use Rattle.msc_chart.specs.Orders.{wired}
use Rattle.msc_reason.proofs.OnePair.{one_pair, race_input}
use Rattle.msc_reason.proofs.laws.a_race_has_one_cause.Goals as goal

pub returns : goal.returns
returns c = record {
  input = λ queues d accepted. race_input (wired queues d);
  causes = λ queues d accepted. one_pair (wired queues d) (c.ends_share_queues.ensures queues d accepted);
}

use Rattle.msc_chart.specs.Orders.{wired}
use Rattle.msc_ready.proofs.Runs.Fewer.{blocked_pair_stays}
use Rattle.msc_ready.proofs.laws.more_ready_end_no_sticking.Goals as goal

pub returns : goal.returns
returns c = λ queues d accepted.
    blocked_pair_stays (wired queues d) (c.ends_share_queues.ensures queues d accepted)
    (λ r u ir iu. c.inputs_share_lines.ensures queues d r u accepted ir iu)

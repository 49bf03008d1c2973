use Rattle.msc_chart.specs.Orders.{wired}
use Rattle.msc_ready.proofs.Runs.Acyclic.{ready_acyclic}
use Rattle.msc_ready.proofs.laws.the_ready_order_has_no_cycle.Goals as goal

pub returns : goal.returns
returns c = λ queues d accepted ready.
    ready_acyclic (wired queues d) (c.ends_share_queues.ensures queues d accepted) ready
    (λ r u ir iu. c.inputs_share_lines.ensures queues d r u accepted ir iu) accepted.acyclic

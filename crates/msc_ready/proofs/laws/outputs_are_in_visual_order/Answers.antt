use Rattle.msc_chart.specs.Orders.{wired}
use Rattle.msc_ready.proofs.Runs.Fewer.{outputs_told}
use Rattle.msc_ready.proofs.laws.outputs_are_in_visual_order.Goals as goal

pub returns : goal.returns
returns c = λ queues d accepted ready.
    outputs_told (wired queues d) ready (c.ends_share_queues.ensures queues d accepted)
    (λ r u ir iu. c.inputs_share_lines.ensures queues d r u accepted ir iu)

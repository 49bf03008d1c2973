use Rattle.msc_chart.specs.Orders.{wired}
use Rattle.msc_ready.proofs.Runs.Passing.{pass_has_none}
use Rattle.msc_ready.proofs.laws.a_pass_never_sticks.Goals as goal

pub returns : goal.returns
returns c = λ queues d accepted none ready.
    pass_has_none (wired queues d) (c.ends_share_queues.ensures queues d accepted)
    (λ r u ir iu. c.inputs_share_lines.ensures queues d r u accepted ir iu) accepted.acyclic none ready

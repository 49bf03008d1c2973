use Rattle.msc_chart.specs.Orders.{wired}
use Rattle.msc_ready.proofs.Runs.Sticking.{met}
use Rattle.msc_ready.proofs.laws.each_first_blocked_pair_is_met.Goals as goal

pub returns : goal.returns
returns c = λ queues d accepted ready e f first.
    met (wired queues d) (c.ends_share_queues.ensures queues d accepted)
    (λ r u ir iu. c.inputs_share_lines.ensures queues d r u accepted ir iu) accepted.acyclic ready e f first

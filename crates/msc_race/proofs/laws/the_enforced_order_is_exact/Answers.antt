use Rattle.msc_chart.specs.Orders.{wired}
use Rattle.msc_race.proofs.Runs.Reversal.{order_exactly}
use Rattle.msc_race.proofs.laws.the_enforced_order_is_exact.Goals as goal

pub returns : goal.returns
returns c = λ queues d accepted.
    order_exactly (wired queues d) (c.ends_share_queues.ensures queues d accepted) accepted.acyclic

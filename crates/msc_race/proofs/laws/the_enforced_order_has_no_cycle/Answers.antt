use Rattle.msc_chart.specs.Orders.{wired}
use Rattle.msc_race.proofs.Runs.WholeRuns.{enforced_acyclic}
use Rattle.msc_race.proofs.laws.the_enforced_order_has_no_cycle.Goals as goal

pub returns : goal.returns
returns c = λ queues d accepted.
    enforced_acyclic (wired queues d) (c.ends_share_queues.ensures queues d accepted) accepted.acyclic

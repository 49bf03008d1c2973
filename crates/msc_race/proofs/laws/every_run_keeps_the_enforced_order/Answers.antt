use Rattle.msc_chart.specs.Orders.{wired}
use Rattle.msc_race.proofs.Runs.Respects.{kept}
use Rattle.msc_race.proofs.laws.every_run_keeps_the_enforced_order.Goals as goal

pub returns : goal.returns
returns c = λ queues d accepted.
    kept (wired queues d) (c.ends_share_queues.ensures queues d accepted)

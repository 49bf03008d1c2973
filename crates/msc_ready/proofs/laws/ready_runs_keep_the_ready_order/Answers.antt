use Rattle.msc_chart.specs.Orders.{wired}
use Rattle.msc_ready.proofs.Runs.Keeping.{kept}
use Rattle.msc_ready.proofs.laws.ready_runs_keep_the_ready_order.Goals as goal

pub returns : goal.returns
returns c = λ queues d accepted ready events run x y.
    kept (wired queues d) (c.ends_share_queues.ensures queues d accepted) ready events run x y

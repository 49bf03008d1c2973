use Rattle.msc_chart.specs.Orders.{wired}
use Rattle.msc_ready.proofs.Left.{left_test}
use Rattle.msc_ready.proofs.laws.races_left_are_told.Goals as goal

pub returns : goal.returns
returns c = λ queues d accepted ready. left_test (wired queues d) (c.ends_share_queues.ensures queues d accepted) ready

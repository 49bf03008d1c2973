use Rattle.msc_chart.specs.Orders.{wired}
use Rattle.msc_html.proofs.Always.{lacks_for_good}
use Rattle.msc_html.proofs.laws.always_lacks_for_good.Goals as goal

pub returns : goal.returns
returns c = λ queues d accepted e f cause race is always.
    lacks_for_good (wired queues d) (c.ends_share_queues.ensures queues d accepted) e f cause race is
    (is.always.0 always)

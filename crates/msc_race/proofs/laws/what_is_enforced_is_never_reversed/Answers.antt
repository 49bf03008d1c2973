use Rattle.msc_chart.specs.Orders.{wired}
use Rattle.msc_race.proofs.Runs.Respects.{never_reversed}
use Rattle.msc_race.proofs.laws.what_is_enforced_is_never_reversed.Goals as goal

pub returns : goal.returns
returns c = λ queues d accepted.
    never_reversed (wired queues d) (c.ends_share_queues.ensures queues d accepted)

use Rattle.msc_chart.specs.Orders.{wired}
use Rattle.msc_race.proofs.Runs.Reversal.{reversed}
use Rattle.msc_race.proofs.laws.what_is_not_enforced_is_reversed.Goals as goal

pub returns : goal.returns
returns c = λ queues d accepted.
    reversed (wired queues d) (c.ends_share_queues.ensures queues d accepted) accepted.acyclic

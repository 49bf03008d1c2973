use Rattle.msc_chart.specs.Orders.{wired}
use Rattle.msc_race.proofs.Pasts.ShortWitnesses.{all_needed}
use Rattle.msc_race.proofs.laws.what_is_enforced_is_needed.Goals as goal

pub returns : goal.returns
returns c = λ queues d accepted.
    all_needed (wired queues d) (c.ends_share_queues.ensures queues d accepted)

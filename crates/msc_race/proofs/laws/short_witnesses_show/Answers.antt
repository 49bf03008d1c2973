use Rattle.msc_chart.specs.Orders.{wired}
use Rattle.msc_race.proofs.Pasts.ShortExists.{short_exists}
use Rattle.msc_race.proofs.Pasts.ShortWitnesses.{needed_least, short_shows, short_unique}
use Rattle.msc_race.proofs.laws.short_witnesses_show.Goals as goal

pub returns : goal.returns
returns c = record {
  exists = λ queues d accepted.
      short_exists (wired queues d) (c.ends_share_queues.ensures queues d accepted) accepted.acyclic;
  unique = λ queues d. short_unique (wired queues d);
  shows = λ queues d accepted.
      short_shows (wired queues d) (c.ends_share_queues.ensures queues d accepted);
  least = λ queues d accepted.
      needed_least (wired queues d) (c.ends_share_queues.ensures queues d accepted);
}

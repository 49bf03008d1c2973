use Rattle.msc_chart.specs.Orders.{wired}
use Rattle.msc_race.proofs.Runs.RaceLaws.{race_exactly, no_race_exactly}
use Rattle.msc_race.proofs.laws.races_are_what_runs_reverse.Goals as goal

pub returns : goal.returns
returns c = record {
  race = λ queues d accepted.
      race_exactly (wired queues d) (c.ends_share_queues.ensures queues d accepted) accepted.acyclic;
  none = λ queues d accepted.
      no_race_exactly (wired queues d) (c.ends_share_queues.ensures queues d accepted) accepted.acyclic;
}

use Rattle.msc_chart.specs.Orders.{wired}
use Rattle.msc_chart.specs.Runs.{MayCome}
use Rattle.msc_race.proofs.Shared.{Steps-push}
use Rattle.msc_race.proofs.Runs.WholeRuns.{never_stuck, whole_after}
use Rattle.msc_race.proofs.laws.no_run_is_stuck.Goals as goal

pub returns : goal.returns
returns c = record {
  longer = λ queues d accepted.
      never_stuck (wired queues d) (c.ends_share_queues.ensures queues d accepted) accepted.acyclic;
  grows = λ queues d events e run may. Steps-push (MayCome (wired queues d)) events e run may;
  whole = λ queues d accepted.
      whole_after (wired queues d) (c.ends_share_queues.ensures queues d accepted) accepted.acyclic;
}

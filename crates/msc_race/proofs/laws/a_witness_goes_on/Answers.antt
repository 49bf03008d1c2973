use Rattle.msc_chart.specs.Orders.{wired}
use Rattle.msc_race.proofs.Runs.Witnesses.{witness_run}
use Rattle.msc_race.proofs.Runs.WitnessExists.{witness_goes_on}
use Rattle.msc_race.proofs.laws.a_witness_goes_on.Goals as goal

pub returns : goal.returns
returns c = record {
  run = λ queues d. witness_run (wired queues d);
  next = λ queues d accepted.
      witness_goes_on (wired queues d) (c.ends_share_queues.ensures queues d accepted) accepted.acyclic;
}

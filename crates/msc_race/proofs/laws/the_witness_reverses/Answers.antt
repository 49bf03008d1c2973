use Rattle.msc_chart.specs.Orders.{wired}
use Rattle.msc_race.proofs.Runs.Witnesses.{witness_unique, witness_whole, witness_reverses, witness_before, witness_reverses_race}
use Rattle.msc_race.proofs.Runs.WitnessExists.{witness_exists}
use Rattle.msc_race.proofs.laws.the_witness_reverses.Goals as goal

pub returns : goal.returns
returns c = record {
  exists = λ queues d accepted.
      witness_exists (wired queues d) (c.ends_share_queues.ensures queues d accepted) accepted.acyclic;
  unique = λ queues d. witness_unique (wired queues d);
  whole = λ queues d. witness_whole (wired queues d);
  reverses = λ queues d e events witness f free. (
    witness_reverses (wired queues d) e events witness f free,
    witness_before (wired queues d) e events witness f free,
  );
  races = λ queues d. witness_reverses_race (wired queues d);
}

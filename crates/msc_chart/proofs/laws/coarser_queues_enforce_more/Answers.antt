use Rattle.msc_chart.specs.declared.queue.LinkKind.TheVariants.{Single}
use Rattle.msc_chart.specs.declared.queue.Queues.TheVariants.{Uniform}
use Rattle.msc_chart.proofs.QueueLemmas.{coarsest, enforced_on}
use Rattle.msc_chart.proofs.laws.coarser_queues_enforce_more.Goals as goal

pub returns : goal.returns
returns c = record {
  coarser = λ fine coarse d e f accepted wider. enforced_on fine coarse d accepted wider e f;
  single = λ queues d e f accepted.
      enforced_on (Uniform Single) queues d accepted (coarsest queues d accepted) e f;
}

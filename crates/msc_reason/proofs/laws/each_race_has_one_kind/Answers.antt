use Rattle.msc_chart.specs.declared.queue.LinkKind.TheVariants.{Single}
use Rattle.msc_chart.specs.declared.queue.Queues.TheVariants.{Uniform}
use Rattle.msc_chart.specs.Orders.{wired}
use Rattle.msc_reason.proofs.KindLemmas.{one_kind, overtaken_always, single_kinds}
use Rattle.msc_reason.proofs.laws.each_race_has_one_kind.Goals as goal

pub returns : goal.returns
returns c = record {
  one = λ queues d accepted. one_kind (wired queues d) (c.ends_share_queues.ensures queues d accepted);
  single = λ d accepted. single_kinds d accepted (c.ends_share_queues.ensures (Uniform Single) d accepted);
  always = λ queues d accepted e f race. overtaken_always (wired queues d) (c.ends_share_queues.ensures queues d accepted) e f;
}

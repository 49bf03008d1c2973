use Rattle.msc_chart.specs.Orders.{wired}
use Rattle.msc_gather.proofs.Gathers.{gathered_or_none, gathered_unique}
use Rattle.msc_gather.proofs.laws.logs_are_gathered_or_none.Goals as goal

pub returns : goal.returns
returns c = record {
  either = λ queues d accepted logs.
      gathered_or_none (wired queues d) _ logs
      (c.charts_are_seated.ensures queues d accepted);
  unique = λ queues d logs xs ys. gathered_unique (wired queues d) _ logs xs ys;
}

use Rattle.msc_chart.specs.Orders.{wired}
use Rattle.msc_gather.proofs.Gathers.{least_gathers, stuck_has_none, no_logs_none}
use Rattle.msc_gather.proofs.laws.the_least_events_gather.Goals as goal

pub returns : goal.returns
returns c = record {
  gathers = λ queues d accepted logs events.
      least_gathers (wired queues d) _ logs events
      (c.charts_are_seated.ensures queues d accepted);
  stuck = λ queues d accepted logs past.
      stuck_has_none (wired queues d) _ logs past
      (c.charts_are_seated.ensures queues d accepted);
  strange = λ queues d accepted logs.
      no_logs_none (wired queues d) _ logs
      (c.charts_are_seated.ensures queues d accepted);
}

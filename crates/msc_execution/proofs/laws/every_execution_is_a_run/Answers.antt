use Rattle.msc_chart.specs.Orders.{wired}
use Rattle.msc_execution.specs.Clocks.{trace_of}
use Rattle.msc_execution.proofs.Timed.{trace_is_run}
use Rattle.msc_execution.proofs.laws.every_execution_is_a_run.Goals as goal

pub returns : goal.returns
returns c = record {
  run = λ queues d accepted logs places.
      trace_is_run (c.charts_are_seated.ensures queues d accepted);
  merge = λ queues d accepted logs places timed none.
      let trace = trace_is_run (c.charts_are_seated.ensures queues d accepted) timed in
      none (trace_of (wired queues d) logs places) trace.0 trace.1;
}

use Rattle.std.proofs.Common.{ℕ, List, length, map, subst, sym}
use Rattle.std.specs.Global.{Vec}
use Rattle.msc_chart.specs.Orders.{wired}
use Rattle.msc_gather.specs.Gathering.{IsGathered}
use Rattle.msc_instance.specs.Views.{outcome_of}
use Rattle.msc_tool.proofs.Ran.{prints_execution, trace_events}
use Rattle.msc_tool.specs.Running.{PrintsExecution}
use Rattle.msc_tool.proofs.running.print_execution.Goals as goal

pub page_of-requires-clause-events : goal.page_of-requires-clause-events
page_of-requires-clause-events g c =
    rw c.as_slice.ensures.value (trace_events c.args.queues c.args.chart.now _ c.in_ok-trace.trace.items c.in_ok-trace.ensures)

pub returns-clause-printed : goal.returns-clause-printed
returns-clause-printed g c =
    let d = c.args.chart.now in
    let x = c.in_ok-execution in
    let gathered = subst (λ (logs : List (Vec ℕ)). IsGathered (wired c.args.queues d) (length d.instances)
    (map (λ log. log.items) logs) c.in_ok-trace.trace.items) c.as_slice-logs.ensures.value c.in_ok-trace.ensures in
    subst (PrintsExecution d c.args.queues g.G.Gate.is_open c.args.patience c.are_finished.result) (sym c.in_ok-page.ensures)
    (prints_execution d c.args.queues g.G.Gate.is_open c.args.patience (outcome_of x.execution) c.as_slice-ends.result.now
    c.in_ok-trace.trace.items c.as_slice.result.now c.are_finished.result c.facts.ensures c.whole_logs_give_whole_traces.ensures
    x.ensures.execution x.ensures.finished gathered c.as_slice-ends.ensures.value c.as_slice.ensures.value c.are_finished.ensures)

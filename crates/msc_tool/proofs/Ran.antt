-- What running a chart answers.
use Rattle.std.proofs.Common.{◌≡◌, ℕ, ◌<◌, Bool, List, length, Some, IsTrue, ◌↔◌, subst, ap, ◌∙◌}
use Rattle.std.specs.List.{All}
use Rattle.msc_chart.specs.declared.queue.Queues.{Queues}
use Rattle.msc_chart.specs.Drawings.{Drawing, IsAccepted}
use Rattle.msc_chart.specs.Orders.{wired}
use Rattle.msc_ending.specs.declared.end.End.{End}
use Rattle.msc_execution.specs.Executions.{Outcome, IsExecution, AreFinished, IsFinished}
use Rattle.msc_gather.specs.Gathering.{IsGathered}
use Rattle.msc_gather.specs.Laws.{WholeLogsGiveWholeTraces}
use Rattle.msc_report.specs.Traces.{trace_text}
use Rattle.msc_race.proofs.Runs.RunEvents.{run_events}
use Rattle.msc_tool.specs.Running.{PrintsExecution}

-- a trace is of events of the chart
pub trace_events : (queues : Queues) (d : Drawing) (logs : List (List ℕ)) (events : List ℕ)
    → IsGathered (wired queues d) (length d.instances) logs events → All (λ e. e < length d.events) events
trace_events queues d logs events gathered = run_events (wired queues d) events gathered.run

-- an execution and its trace are what is printed
pub prints_execution : (d : Drawing) (queues : Queues) (open' : Bool) (patience : ℕ) (o : Outcome) (ends : List End) (trace events : List ℕ) (finished : Bool)
    → IsAccepted d → WholeLogsGiveWholeTraces → IsExecution queues d open' patience o → (AreFinished o.ends → IsFinished d o)
    → IsGathered (wired queues d) (length d.instances) o.logs trace → ends ≡ o.ends → events ≡ trace → IsTrue finished ↔ AreFinished ends
    → PrintsExecution d queues open' patience finished (trace_text d queues ends (Some events))
prints_execution d queues open' patience o ends trace events finished accepted whole execution leaves gathered same_ends same told =
    let answered = subst (λ (es : List End). IsTrue finished ↔ AreFinished es) same_ends told in record {
      outcome = o;
      execution = execution;
      trace = trace;
      gathered = gathered;
      answered = answered;
      whole = λ e. whole queues d accepted o.logs trace gathered.lines (leaves (answered.0 e)).whole;
      text = ap (λ (es : List End). trace_text d queues es (Some events)) same_ends
          ∙ ap (λ (t : List ℕ). trace_text d queues o.ends (Some t)) same;
    }

-- What running a chart answers.
use Rattle.std.specs.Prelude.{◌≡◌, ℕ, ◌↔◌, Bool, true, List, length, Some}
use Rattle.msc_chart.specs.declared.queue.Queues.{Queues}
use Rattle.msc_chart.specs.Drawings.{Drawing}
use Rattle.msc_chart.specs.Orders.{wired}
use Rattle.msc_chart.specs.Runs.{IsWhole}
use Rattle.msc_execution.specs.Executions.{Outcome, IsExecution, AreFinished}
use Rattle.msc_gather.specs.Gathering.{IsGathered}
use Rattle.msc_report.specs.Traces.{trace_text}

-- What is printed of a chart: how each instance of one of its executions ended, and the execution's
-- trace, the least run that has the instances' logs as its lines. Whether all have finished is told;
-- where they have, the trace is a whole run.
pub record PrintsExecution (d : Drawing) (queues : Queues) (open' : Bool) (patience : ℕ)
    (finished : Bool) (printed : List ℕ) : Type 0 where
  pub outcome : Outcome
  pub execution : IsExecution queues d open' patience outcome
  pub trace : List ℕ
  pub gathered : IsGathered (wired queues d) (length d.instances) outcome.logs trace
  pub answered : (finished ≡ true) ↔ AreFinished outcome.ends
  pub whole : finished ≡ true → IsWhole (wired queues d) trace
  pub text : printed ≡ trace_text d queues outcome.ends (Some trace)

use Rattle.msc_execution.proofs.Clocks.Readings.{is_run, has_merge}
use Rattle.msc_execution.proofs.laws.executions_are_runs.Goals as goal

pub returns : goal.returns
returns c = record {
  run = λ queues d open' patience o accepted exec.
      is_run exec accepted (c.charts_are_seated.ensures queues d accepted);
  merge = λ queues d open' patience o accepted exec.
      has_merge exec accepted (c.charts_are_seated.ensures queues d accepted);
}

use Rattle.msc_execution.proofs.Clocks.Readings.{timed_by}
use Rattle.msc_execution.proofs.laws.executions_are_timed.Goals as goal

pub returns : goal.returns
returns c = λ queues d open' patience o accepted exec.
    timed_by exec accepted (c.charts_are_seated.ensures queues d accepted)

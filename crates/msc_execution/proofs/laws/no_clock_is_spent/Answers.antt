use Rattle.std.proofs.Common.{refl}
use Rattle.msc_execution.proofs.Clocks.Readings.{puts_few, clocks_few, places_few, none_stopped}
use Rattle.msc_execution.proofs.laws.no_clock_is_spent.Goals as goal

pub returns : goal.returns
returns c = record {
  puts = λ queues d open' patience o accepted exec.
      puts_few exec accepted (c.charts_are_seated.ensures queues d accepted);
  clocks = λ queues d open' patience o accepted exec.
      clocks_few exec accepted (c.charts_are_seated.ensures queues d accepted);
  places = λ queues d open' patience o accepted exec.
      places_few exec accepted (c.charts_are_seated.ensures queues d accepted);
  stopped = λ queues d patience o accepted exec.
      none_stopped exec accepted (c.charts_are_seated.ensures queues d accepted) refl;
}

use Rattle.msc_execution.proofs.Bounded.{clocks_bounded, places_bounded}
use Rattle.msc_execution.proofs.laws.clocks_are_bounded.Goals as goal

pub returns : goal.returns
returns c = record {
  instances = λ queues d accepted logs places.
      clocks_bounded (c.charts_are_seated.ensures queues d accepted);
  queues = λ queues d accepted logs places.
      places_bounded (c.charts_are_seated.ensures queues d accepted);
}

use Rattle.msc_chart.specs.Orders.{wired}
use Rattle.msc_reason.proofs.Spans.{race_spans}
use Rattle.msc_reason.proofs.laws.every_race_spans_a_closest_race.Goals as goal

pub returns : goal.returns
returns c = record {
  spans = λ queues d accepted. race_spans (wired queues d) (c.ends_share_queues.ensures queues d accepted);
  none = λ queues d accepted. (
    λ none e f closest. none e f closest.race,
    λ none e f race.
        let within = race_spans (wired queues d) (c.ends_share_queues.ensures queues d accepted) e f race in
        none within.0 within.1 within.2,
  );
}

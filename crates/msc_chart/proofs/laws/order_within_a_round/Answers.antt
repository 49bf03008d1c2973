use Rattle.msc_chart.proofs.RoundLawProofs.{order_within_a_round, order_of_some_rounds, visual_order_within_a_round, visual_order_of_some_rounds}
use Rattle.msc_chart.proofs.laws.order_within_a_round.Goals as goal

pub returns : goal.returns
returns c = record {
  within = order_within_a_round;
  some = order_of_some_rounds;
  visual_within = visual_order_within_a_round;
  visual_some = visual_order_of_some_rounds;
}

use Rattle.msc_ready.proofs.Repeating.Laws.{ready_order_of_some_rounds, ready_order_within_a_round}
use Rattle.msc_ready.proofs.laws.ready_order_within_a_round.Goals as goal

pub returns : goal.returns
returns c = record { within = ready_order_within_a_round; some = ready_order_of_some_rounds }

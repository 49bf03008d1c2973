use Rattle.msc_ready.proofs.Repeating.Laws.{many_rounds_stick_as_two, rounds_go_on_by_two, rounds_stick_by_two, blocked_pairs_of_two_rounds, blocked_pairs_within_a_round}
use Rattle.msc_ready.proofs.laws.rounds_stick_by_two.Goals as goal

pub returns : goal.returns
returns c = record { within = blocked_pairs_within_a_round; two = blocked_pairs_of_two_rounds; all = rounds_stick_by_two; many = many_rounds_stick_as_two; runs = rounds_go_on_by_two }

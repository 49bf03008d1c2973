use Rattle.msc_chart.proofs.RoundLawProofs.{rounds_by_two, many_rounds_pass_as_two, two_rounds_pass, closest_races_by_two, next_over_two_rounds}
use Rattle.msc_chart.proofs.laws.rounds_by_two.Goals as goal

pub returns : goal.returns
returns c = record { passes = rounds_by_two; many = many_rounds_pass_as_two; two = two_rounds_pass; closest = closest_races_by_two; next = next_over_two_rounds }

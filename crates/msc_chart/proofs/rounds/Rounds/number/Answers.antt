use Rattle.std.proofs.Common.{refl}
use Rattle.msc_chart.specs.Rounds.{count_of, number_of}
use Rattle.msc_chart.proofs.rounds.Rounds.number.Goals as goal

pub returns-clause-value : goal.returns-clause-value
unfolding number_of count_of
returns-clause-value c = rw (c.span-span.ensures.first, c.span-span.ensures.past) refl

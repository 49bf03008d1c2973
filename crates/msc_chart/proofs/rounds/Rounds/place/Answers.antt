use Rattle.std.proofs.Common.{refl}
use Rattle.msc_chart.specs.Rounds.{count_of, event_of, offset_of, round_of}
use Rattle.msc_chart.proofs.rounds.Rounds.place.Goals as goal

pub returns-clause-event : goal.returns-clause-event
unfolding event_of offset_of count_of
returns-clause-event c = rw (c.span-span.ensures.first, c.span-span.ensures.past) refl

pub returns-clause-round : goal.returns-clause-round
unfolding round_of offset_of count_of
returns-clause-round c = rw (c.span-span.ensures.first, c.span-span.ensures.past) refl

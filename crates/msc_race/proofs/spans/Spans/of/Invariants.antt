use Rattle.msc_race.specs.Choices.{wired_chart}
use Rattle.msc_race.specs.PastEvents.{HoldsSpans}
use Rattle.msc_race.proofs.spans.Spans.of.Given as goal

abbrev pub invariant-loop-x : goal.invariant-loop-x
invariant-loop-x l = HoldsSpans (wired_chart l.choice) l.spans l.x

use Rattle.msc_race.specs.Choices.{event_count}
use Rattle.msc_race.specs.Remainders.{AreRows, AreToldBelow}
use Rattle.msc_race.proofs.remaining.Remaining.tell_all.Given as goal

abbrev pub invariant-loop-x : goal.invariant-loop-x
invariant-loop-x l = AreRows (event_count l.choice) l.self × AreToldBelow l.choice l.self l.x

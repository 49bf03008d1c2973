use Rattle.msc_place.proofs.OnLines.{NoneBefore}
use Rattle.msc_place.proofs.places.Places.event_at_line.Given as goal

abbrev pub invariant-loop-e : goal.invariant-loop-e
invariant-loop-e l = NoneBefore l.self.text l.self.stand.events l.line l.e

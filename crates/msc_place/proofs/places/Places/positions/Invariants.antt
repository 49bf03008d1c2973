use Rattle.std.proofs.Common.{◌≡◌, length}
use Rattle.msc_place.proofs.EventPositionLemmas.{AreOf}
use Rattle.msc_place.proofs.places.Places.positions.Given as goal

abbrev pub invariant-loop-event : goal.invariant-loop-event
invariant-loop-event l =
    (length l.positions.items ≡ l.event-index) × AreOf l.self.text l.self.stand.events l.positions.items

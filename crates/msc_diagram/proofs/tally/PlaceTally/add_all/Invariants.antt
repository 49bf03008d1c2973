use Rattle.std.proofs.Common.{◌≡◌, ◌+◌, take}
use Rattle.std.specs.Prelude.{count_by}
use Rattle.msc_diagram.specs.Places.{same_places}
use Rattle.msc_diagram.specs.Tallies.{tally_at}
use Rattle.msc_diagram.specs.declared.place.EventPlace.{EventPlace}
use Rattle.msc_diagram.proofs.tally.PlaceTally.add_all.Given as goal

-- those so far are counted
abbrev pub invariant-loop-places : goal.invariant-loop-places
invariant-loop-places l = (p : EventPlace × EventPlace)
    → tally_at l.self p ≡ tally_at l.fn.self p + count_by (same_places p) (take l.places-index l.places-items)

use Rattle.std.proofs.Common.{◌≡◌, ◌++◌, map, take}
use Rattle.msc_import.specs.Plans.{seen}
use Rattle.msc_import.specs.Places.{place_of}
use Rattle.msc_import.proofs.placing.put_places.Given as goal

abbrev pub invariant-loop-event : goal.invariant-loop-event
invariant-loop-event l =
    l.places.items ≡ l.fn.places.items ++ map (λ e. place_of (seen e)) (take l.event-index l.events)

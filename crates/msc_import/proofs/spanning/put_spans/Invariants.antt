use Rattle.std.proofs.Common.{◌≡◌, ◌++◌, map, take}
use Rattle.msc_import.specs.Plans.{seen}
use Rattle.msc_import.specs.Places.{site_of}
use Rattle.msc_import.proofs.spanning.put_spans.Given as goal

abbrev pub invariant-loop-event : goal.invariant-loop-event
invariant-loop-event l =
    l.spans.items ≡ l.fn.spans.items ++ map (λ e. site_of (seen e)) (take l.event-index l.events)

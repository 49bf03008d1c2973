use Rattle.std.proofs.Common.{◌≡◌, map, take}
use Rattle.msc_import.specs.Drafting.{drawn_event}
use Rattle.msc_import.specs.Plans.{seen}
use Rattle.msc_import.proofs.drafting.drawn_events.Given as goal

abbrev pub invariant-loop-event : goal.invariant-loop-event
invariant-loop-event l =
    l.drawn.items ≡ map (λ e. drawn_event l.names (seen e)) (take l.event-index l.events)

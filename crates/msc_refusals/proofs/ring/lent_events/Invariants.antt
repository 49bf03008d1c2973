use Rattle.std.proofs.Common.{◌≡◌, map, take}
use Rattle.msc_refusals.specs.Rings.{plain_ring}
use Rattle.msc_shown_chart.specs.Shown.{plain_event}
use Rattle.msc_refusals.proofs.ring.lent_events.Given as goal

abbrev pub invariant-loop-event : goal.invariant-loop-event
invariant-loop-event l = map plain_event l.lent.items ≡ map plain_ring (take l.event-index l.events)

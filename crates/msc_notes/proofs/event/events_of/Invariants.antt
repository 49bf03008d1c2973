use Rattle.std.proofs.Common.{◌≡◌, map, take}
use Rattle.msc_notes.specs.Events.{own_view, owned_of}
use Rattle.msc_notes.proofs.event.events_of.Given as goal

abbrev pub invariant-loop-line : goal.invariant-loop-line
invariant-loop-line l = map own_view l.events.items ≡ owned_of (take l.line l.section-items)

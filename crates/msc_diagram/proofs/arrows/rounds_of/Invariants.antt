use Rattle.std.proofs.Common.{◌≡◌, map, take}
use Rattle.msc_import.specs.declared.spanning.EventSpans.{EventSpans}
use Rattle.msc_diagram.proofs.arrows.rounds_of.Given as goal

-- those of the events so far
abbrev pub invariant-loop-event : goal.invariant-loop-event
invariant-loop-event l = l.all.items ≡ map (λ (event : EventSpans). event.rounds) (take l.event-index l.events)

use Rattle.std.proofs.Common.{◌≡◌, map, take}
use Rattle.msc_diagram.specs.Arrows.{arrow_of}
use Rattle.msc_diagram.proofs.arrows.arrows_of.Given as goal

-- those of the events so far
abbrev pub invariant-loop-event : goal.invariant-loop-event
invariant-loop-event l = l.arrows.items ≡ map (arrow_of l.statements) (take l.event-index l.events)

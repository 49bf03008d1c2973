use Rattle.std.proofs.Common.{◌≡◌, ◌++◌, map, take}
use Rattle.msc_notes.specs.Events.{own_view, own_statement}
use Rattle.msc_notes.proofs.event.push_item.Given as goal

abbrev pub invariant-loop-statement : goal.invariant-loop-statement
invariant-loop-statement l =
    map own_view l.events.items ≡ map own_view l.initial.events.items ++ map (own_statement l.own) (take l.statement-index l.statement-items)

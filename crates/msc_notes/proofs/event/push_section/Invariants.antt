use Rattle.std.proofs.Common.{◌≡◌, ◌++◌, map, take}
use Rattle.std.specs.List.{flat_map}
use Rattle.msc_parser.specs.Drafts.{statements_in}
use Rattle.msc_notes.specs.Events.{own_view, own_statement}
use Rattle.msc_notes.proofs.event.push_section.Given as goal

abbrev pub invariant-loop-place : goal.invariant-loop-place
invariant-loop-place l =
    map own_view l.events.items ≡ map own_view l.initial.events.items ++ map (own_statement l.own) (flat_map statements_in (take l.place l.item-items))

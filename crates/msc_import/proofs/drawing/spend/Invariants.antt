use Rattle.std.proofs.Common.{◌≡◌, ◌+◌, length, take}
use Rattle.std.specs.List.{flat_map}
use Rattle.msc_parser.specs.Drafts.{statements_in}
use Rattle.msc_import.proofs.drawing.spend.Given as goal

abbrev pub invariant-loop-item : goal.invariant-loop-item
invariant-loop-item l =
    l.left + length (flat_map statements_in (take l.item-index l.items)) ≡ l.events

use Rattle.std.proofs.Common.{◌≡◌, ◌++◌, take}
use Rattle.std.specs.List.{flat_map}
use Rattle.msc_lexer.specs.Pieces.{text_of}
use Rattle.msc_parser.specs.Canonical.{item_pieces}
use Rattle.msc_parser.proofs.writing.put_items.Given as goal

abbrev pub invariant-loop-item : goal.invariant-loop-item
invariant-loop-item l =
    l.out.items ≡ l.fn.out.items ++ text_of (flat_map item_pieces (take l.item-index l.items))

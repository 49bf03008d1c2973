use Rattle.std.proofs.Common.{◌≡◌, ◌++◌, take}
use Rattle.std.specs.List.{flat_map}
use Rattle.msc_lexer.specs.Pieces.{text_of}
use Rattle.msc_parser.specs.Canonical.{inner_pieces}
use Rattle.msc_parser.proofs.writing.put_inner.Given as goal

abbrev pub invariant-loop-event : goal.invariant-loop-event
invariant-loop-event l =
    l.out.items ≡ l.fn.out.items ++ text_of (flat_map inner_pieces (take l.event-index l.events))

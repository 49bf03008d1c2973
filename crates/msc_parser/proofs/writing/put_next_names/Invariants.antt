use Rattle.std.proofs.Common.{◌≡◌, ◌++◌, take}
use Rattle.std.specs.List.{flat_map}
use Rattle.msc_lexer.specs.Pieces.{text_of}
use Rattle.msc_parser.specs.Canonical.{next_name_pieces}
use Rattle.msc_parser.proofs.writing.put_next_names.Given as goal

abbrev pub invariant-loop-name : goal.invariant-loop-name
invariant-loop-name l =
    l.out.items ≡ l.fn.out.items ++ text_of (flat_map next_name_pieces (take l.name-index l.names))

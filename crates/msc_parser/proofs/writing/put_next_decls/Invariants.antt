use Rattle.std.proofs.Common.{◌≡◌, ◌++◌, take}
use Rattle.std.specs.List.{flat_map}
use Rattle.msc_lexer.specs.Pieces.{text_of}
use Rattle.msc_parser.specs.Canonical.{next_decl_pieces}
use Rattle.msc_parser.proofs.writing.put_next_decls.Given as goal

abbrev pub invariant-loop-decl : goal.invariant-loop-decl
invariant-loop-decl l =
    l.out.items ≡ l.fn.out.items ++ text_of (flat_map next_decl_pieces (take l.decl-index l.decls))

use Rattle.std.proofs.Common.{◌≡◌, ◌++◌, take}
use Rattle.std.specs.List.{flat_map}
use Rattle.msc_lexer.specs.Pieces.{text_of}
use Rattle.msc_parser.specs.Canonical.{section_pieces}
use Rattle.msc_parser.proofs.writing.put_sections.Given as goal

abbrev pub invariant-loop-section : goal.invariant-loop-section
invariant-loop-section l =
    l.out.items ≡ l.fn.out.items ++ text_of (flat_map section_pieces (take l.section-index l.sections))

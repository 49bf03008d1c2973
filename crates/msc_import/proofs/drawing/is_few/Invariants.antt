use Rattle.std.proofs.Common.{◌≡◌, ◌+◌, length, take}
use Rattle.msc_lexer.specs.declared.TheConstants.{TEXT_LIMIT}
use Rattle.msc_parser.specs.Drafts.{statements_of}
use Rattle.msc_import.proofs.drawing.is_few.Given as goal

abbrev pub invariant-loop-section : goal.invariant-loop-section
invariant-loop-section l =
    l.left + length (statements_of (take l.section-index l.sections)) ≡ TEXT_LIMIT

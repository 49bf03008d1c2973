use Rattle.std.proofs.Common.{◌≡◌, ◌++◌, take}
use Rattle.msc_lexer.specs.Pieces.{doubled}
use Rattle.msc_parser.proofs.writing.put_doubled.Given as goal

abbrev pub invariant-loop-byte : goal.invariant-loop-byte
invariant-loop-byte l =
    l.out.items ≡ l.fn.out.items ++ doubled (take l.byte-index l.bytes)

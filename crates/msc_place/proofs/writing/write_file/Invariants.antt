use Rattle.std.proofs.Common.{map, take}
use Rattle.std.specs.Io.KnownBytes.{Appends}
use Rattle.msc_place.specs.Texts.{shown_byte}
use Rattle.msc_place.proofs.writing.write_file.Given as goal

abbrev pub invariant-loop-byte : goal.invariant-loop-byte
invariant-loop-byte g l =
    Appends (g.W.Write.contents l.fn.writer) (g.W.Write.contents l.writer) (map shown_byte (take l.byte-index l.file))

use Rattle.std.proofs.Common.{take}
use Rattle.std.specs.Io.KnownBytes.{Appends}
use Rattle.msc_report.specs.Texts.{each_shown}
use Rattle.msc_report.proofs.link.write_row.Given as goal

-- the bytes so far
abbrev pub invariant-loop-byte : goal.invariant-loop-byte
invariant-loop-byte g l =
    Appends (g.W.Write.contents l.fn.writer) (g.W.Write.contents l.writer) (each_shown (take l.byte-index l.row))

use Rattle.std.proofs.Common.{take}
use Rattle.std.specs.Io.KnownBytes.{Appends}
use Rattle.std.specs.List.{flat_map}
use Rattle.msc_report.specs.Verdicts.{shown_byte}
use Rattle.msc_report.proofs.race.write_label.Given as goal

abbrev pub invariant-loop-byte : goal.invariant-loop-byte
invariant-loop-byte g l =
    Appends (g.W.Write.contents l.fn.writer) (g.W.Write.contents l.writer) (flat_map shown_byte (take l.byte-index l.label))

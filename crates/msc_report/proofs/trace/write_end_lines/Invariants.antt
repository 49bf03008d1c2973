use Rattle.std.proofs.Common.{take}
use Rattle.std.specs.Io.KnownBytes.{Appends}
use Rattle.msc_report.specs.Traces.{end_lines}
use Rattle.msc_report.proofs.trace.write_end_lines.Given as goal

-- the lines of the instances so far have gone out
abbrev pub invariant-loop-i : goal.invariant-loop-i
invariant-loop-i g l =
    Appends (g.W.Write.contents l.fn.writer) (g.W.Write.contents l.writer)
    (end_lines l.chart 0 (take l.i l.ends))

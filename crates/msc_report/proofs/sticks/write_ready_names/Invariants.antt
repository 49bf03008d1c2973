use Rattle.std.specs.Io.KnownBytes.{Appends}
use Rattle.msc_report.specs.BlockedPairs.{ready_names}
use Rattle.msc_report.proofs.sticks.write_ready_names.Given as goal

abbrev pub invariant-loop-i : goal.invariant-loop-i
invariant-loop-i g l =
    Appends (g.W.Write.contents l.fn.writer) (g.W.Write.contents l.writer) (ready_names l.chart l.lines l.i)

use Rattle.std.proofs.Common.{take}
use Rattle.std.specs.Io.KnownBytes.{Appends}
use Rattle.std.specs.List.{flat_map}
use Rattle.msc_report.specs.Rounds.{spaced_name}
use Rattle.msc_report.proofs.rounds.RoundNames.write_names.Given as goal

abbrev pub invariant-loop-k : goal.invariant-loop-k
invariant-loop-k g l =
    Appends (g.W.Write.contents l.fn.writer) (g.W.Write.contents l.writer)
    (flat_map (spaced_name l.self.chart.now) (take l.k-index l.run))

use Rattle.std.specs.Io.KnownBytes.{Appends}
use Rattle.std.specs.Prelude.{option_map}
use Rattle.msc_report.specs.Lists.{listed_below}
use Rattle.msc_report.proofs.list.write_all_listed.Given as goal

abbrev pub invariant-loop-e : goal.invariant-loop-e
invariant-loop-e g l =
    Appends (g.W.Write.contents l.fn.writer) (g.W.Write.contents l.writer) (listed_below l.chart (option_map (λ s. s.now) l.event_positions) l.e)

use Rattle.std.specs.Io.KnownBytes.{Appends}
use Rattle.std.proofs.Common.{length}
use Rattle.msc_links.specs.Listed.{receivers_below}
use Rattle.msc_report.specs.Links.{link_lines}
use Rattle.msc_report.proofs.links.write_receivers.Given as goal

abbrev pub invariant-loop-r : goal.invariant-loop-r
invariant-loop-r g l =
    Appends (g.W.Write.contents l.fn.writer) (g.W.Write.contents l.writer) (link_lines l.chart (receivers_below l.queues (length l.chart.instances) l.r))

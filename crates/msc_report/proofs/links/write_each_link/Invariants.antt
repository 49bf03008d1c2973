use Rattle.std.specs.Io.KnownBytes.{Appends}
use Rattle.msc_links.specs.Listed.{links_below}
use Rattle.msc_report.specs.Links.{link_lines}
use Rattle.msc_report.proofs.links.write_each_link.Given as goal

abbrev pub invariant-loop-s : goal.invariant-loop-s
invariant-loop-s g l =
    Appends (g.W.Write.contents l.fn.writer) (g.W.Write.contents l.writer) (link_lines l.chart (links_below l.queues l.r l.s))

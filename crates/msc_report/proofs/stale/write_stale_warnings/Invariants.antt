use Rattle.std.proofs.Common.{take}
use Rattle.std.specs.Io.KnownBytes.{Appends}
use Rattle.msc_report.specs.Stale.{stale_warnings}
use Rattle.msc_report.proofs.stale.write_stale_warnings.Given as goal

-- the lines of the events so far have gone out
abbrev pub invariant-loop-event : goal.invariant-loop-event
invariant-loop-event g l =
    Appends (g.W.Write.contents l.fn.writer) (g.W.Write.contents l.writer)
    (stale_warnings l.event_positions l.chart (take l.event-index l.events))

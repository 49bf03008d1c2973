use Rattle.std.proofs.Common.{option_map, take}
use Rattle.std.specs.Io.KnownBytes.{Appends}
use Rattle.msc_report.specs.Stale.{stale_lines}
use Rattle.msc_report.proofs.stale.write_stale_lines.Given as goal

-- the lines of the events so far have gone out
abbrev pub invariant-loop-event : goal.invariant-loop-event
invariant-loop-event g l =
    Appends (g.W.Write.contents l.fn.writer) (g.W.Write.contents l.writer)
    (stale_lines (option_map (λ s. s.now) l.event_positions) l.chart (take l.event-index l.events))

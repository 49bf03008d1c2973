use Rattle.std.proofs.Common.{take}
use Rattle.std.specs.Io.KnownBytes.{Appends}
use Rattle.std.specs.List.{flat_map}
use Rattle.msc_report.specs.Following.{note_text}
use Rattle.msc_report.proofs.following.write_step_notes.Given as goal

-- the notes of the steps so far have gone out
abbrev pub invariant-loop-step : goal.invariant-loop-step
invariant-loop-step g l =
    Appends (g.W.Write.contents l.fn.writer) (g.W.Write.contents l.writer)
    (flat_map (note_text l.event_positions l.chart) (take l.step-index l.steps))

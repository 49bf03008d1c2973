use Rattle.std.proofs.Common.{option_map, take}
use Rattle.std.specs.Io.KnownBytes.{Appends}
use Rattle.msc_report.specs.Following.{steps_text}
use Rattle.msc_report.proofs.following.write_steps.Given as goal

-- the lines of the steps so far have gone out
abbrev pub invariant-loop-step : goal.invariant-loop-step
invariant-loop-step g l =
    Appends (g.W.Write.contents l.fn.writer) (g.W.Write.contents l.writer)
    (steps_text (option_map (λ s. s.now) l.event_positions) l.chart (take l.step-index l.steps))

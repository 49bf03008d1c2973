use Rattle.std.proofs.Common.{ℕ, ◌<◌, ◌≤◌}
use Rattle.msc_chart.specs.Charts.{ShareSegment}
use Rattle.msc_chart.proofs.chart.Chart.segment_end.Given as goal

abbrev pub invariant-loop-f : goal.invariant-loop-f
invariant-loop-f l = (g : ℕ) → l.e ≤ g → g < l.f → ShareSegment l.self.events l.e g

use Rattle.std.proofs.Common.{◌≡◌, ℕ, ◌<◌, ◌≤◌}
use Rattle.msc_chart.specs.Charts.{line}
use Rattle.msc_chart.proofs.chart.Chart.line_end.Given as goal

abbrev pub invariant-loop-f : goal.invariant-loop-f
invariant-loop-f l = (g : ℕ) → l.e ≤ g → g < l.f → line l.self.events l.e ≡ line l.self.events g

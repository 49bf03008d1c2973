use Rattle.std.proofs.Common.{ℕ, ◌<◌, length}
use Rattle.msc_chart.specs.Charts.{before}
use Rattle.msc_follow.specs.Tables.{GainsSo}
use Rattle.msc_follow.proofs.table.put_drawn.Given as goal

abbrev pub invariant-loop-y : goal.invariant-loop-y
invariant-loop-y l =
    GainsSo (length l.chart.events) l.initial.words l.words l.x (before l.chart.events l.x) (λ (w : ℕ). w < l.y)

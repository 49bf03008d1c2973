use Rattle.std.proofs.Common.{ℕ, ◌<◌, length}
use Rattle.msc_chart.specs.Charts.{partner}
use Rattle.msc_chart.specs.Orders.{wired}
use Rattle.msc_follow.specs.Steps.{is_ahead}
use Rattle.msc_follow.specs.Tables.{GainsSo}
use Rattle.msc_follow.proofs.table.put_ahead.Given as goal

abbrev pub invariant-loop-u : goal.invariant-loop-u
invariant-loop-u l =
    GainsSo (length l.wiring.chart.now.events) l.initial.words l.words l.x (is_ahead (wired l.wiring.queues l.wiring.chart.now) l.x) (λ (w : ℕ). partner l.wiring.chart.now.events w < l.u)

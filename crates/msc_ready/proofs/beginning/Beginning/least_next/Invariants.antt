use Rattle.std.proofs.Common.{ℕ, ◌<◌}
use Rattle.msc_chart.specs.Charts.{line}
use Rattle.msc_ready.specs.Held.{wiring_of, ready_in}
use Rattle.msc_ready.specs.Looking.{ComesAmong}
use Rattle.msc_ready.proofs.beginning.Beginning.least_next.Given as goal

-- none of the events of the lines so far may come
abbrev pub invariant-loop-i : goal.invariant-loop-i
invariant-loop-i l =
    (y : ℕ) → line l.ready.chart.events y < l.i → ComesAmong (wiring_of l.ready) (ready_in l.ready) l.among l.self.run.items y → ⊥

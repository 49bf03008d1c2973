use Rattle.std.proofs.Common.{◌≡◌, ℕ, ◌<◌, true}
use Rattle.msc_chart.specs.Charts.{partner}
use Rattle.msc_chart.specs.Lists.{occurs}
use Rattle.msc_ready.specs.Held.{wiring_of, ready_in}
use Rattle.msc_ready.specs.BlockedPairs.{is_lined}
use Rattle.msc_ready.proofs.beginning.Beginning.is_in_turn.Given as goal

abbrev pub invariant-loop-r : goal.invariant-loop-r
invariant-loop-r l =
    (y : ℕ) → y < l.r → is_lined (wiring_of l.ready) (ready_in l.ready) y l.u ≡ true → occurs l.self.run.items (partner l.ready.chart.events y) ≡ true

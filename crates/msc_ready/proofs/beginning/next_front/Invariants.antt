use Rattle.std.proofs.Common.{◌≡◌, ℕ, ◌<◌, ◌≤◌, true, false, get_or}
use Rattle.msc_chart.specs.Charts.{line}
use Rattle.msc_ready.proofs.beginning.next_front.Given as goal

abbrev pub invariant-loop-f : goal.invariant-loop-f
invariant-loop-f l =
    (y : ℕ) → l.start ≤ y → y < l.f → (line l.ready.chart.events y ≡ l.i) × (get_or l.done y false ≡ true)

use Rattle.std.proofs.Common.{◌≡◌, ℕ, ◌<◌, false, get_or}
use Rattle.msc_chart.specs.Runs.{is_waiting}
use Rattle.msc_ready.specs.Held.{wiring_of}
use Rattle.msc_ready.proofs.beginning.first_waiting.Given as goal

abbrev pub invariant-loop-x : goal.invariant-loop-x
invariant-loop-x l = (k : ℕ) → k < l.x-index → is_waiting (wiring_of l.ready) l.q l.run (get_or l.run k 0) ≡ false

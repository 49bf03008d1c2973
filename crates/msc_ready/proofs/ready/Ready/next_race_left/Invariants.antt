use Rattle.std.proofs.Common.{ℕ, ◌<◌, ◌≤◌}
use Rattle.msc_ready.specs.Held.{wiring_of, ready_in}
use Rattle.msc_ready.specs.BlockedPairs.{IsRaceLeft}
use Rattle.msc_ready.proofs.ready.Ready.next_race_left.Given as goal

abbrev pub invariant-loop-f : goal.invariant-loop-f
invariant-loop-f l = (y : ℕ) → y < l.f → l.start ≤ y → IsRaceLeft (wiring_of l.self) (ready_in l.self) l.e y → ⊥

use Rattle.std.proofs.Common.{ℕ, ◌<◌}
use Rattle.msc_ready.specs.Held.{wiring_of, ready_in}
use Rattle.msc_ready.specs.BlockedPairs.{IsBlockedPair}
use Rattle.msc_ready.proofs.ready.Ready.least_first.Given as goal

abbrev pub invariant-loop-g : goal.invariant-loop-g
invariant-loop-g l = (x : ℕ) → x < l.g → IsBlockedPair (wiring_of l.self) (ready_in l.self) x l.h → ⊥

use Rattle.std.proofs.Common.{◌≡◌, ◌++◌, ℕ, Bool}
use Rattle.msc_chart.specs.Lists.{pairs_to}
use Rattle.msc_ready.specs.Held.{ready_in, wiring_of}
use Rattle.msc_ready.specs.BlockedPairs.{AreLeft}
use Rattle.msc_ready.proofs.ready.Ready.push_left.Given as goal

abbrev pub invariant-loop-f : goal.invariant-loop-f
invariant-loop-f l = (left : ℕ → ℕ → Bool) → AreLeft (wiring_of l.self) (ready_in l.self) left
    → l.list.items ≡ l.initial.list.items ++ pairs_to left l.e l.f

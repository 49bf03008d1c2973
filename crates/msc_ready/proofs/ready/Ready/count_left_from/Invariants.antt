use Rattle.std.proofs.Common.{◌≡◌, ◌≤◌, ℕ, Bool, length}
use Rattle.msc_chart.specs.Lists.{pairs_to}
use Rattle.msc_ready.specs.Held.{ready_in, wiring_of}
use Rattle.msc_ready.specs.BlockedPairs.{AreLeft}
use Rattle.msc_ready.proofs.ready.Ready.count_left_from.Given as goal

abbrev pub invariant-loop-f : goal.invariant-loop-f
invariant-loop-f l = record {
  few : l.count ≤ l.f;
  number : (left : ℕ → ℕ → Bool) → AreLeft (wiring_of l.self) (ready_in l.self) left → l.count ≡ length (pairs_to left l.e l.f);
}

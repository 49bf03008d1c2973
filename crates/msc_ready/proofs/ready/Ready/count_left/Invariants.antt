use Rattle.std.proofs.Common.{◌≡◌, ◌≤◌, ◌*◌, ℕ, Bool, length}
use Rattle.msc_chart.specs.declared.TheConstants.{EVENT_LIMIT}
use Rattle.msc_race.proofs.Listing.Pairs.{pairs_below}
use Rattle.msc_ready.specs.Held.{ready_in, wiring_of}
use Rattle.msc_ready.specs.BlockedPairs.{AreLeft}
use Rattle.msc_ready.proofs.ready.Ready.count_left.Given as goal

abbrev pub invariant-loop-e : goal.invariant-loop-e
invariant-loop-e l = record {
  few : l.total ≤ l.e * EVENT_LIMIT;
  number : (left : ℕ → ℕ → Bool) → AreLeft (wiring_of l.self) (ready_in l.self) left
      → l.total ≡ length (pairs_below left (length l.self.chart.events) l.e);
}

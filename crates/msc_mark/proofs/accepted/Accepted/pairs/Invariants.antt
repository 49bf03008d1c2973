use Rattle.std.proofs.Common.{◌≡◌, ℕ, length}
use Rattle.msc_race.specs.Walks.{HasReached}
use Rattle.msc_race.proofs.Listing.Raced.{races_below}
use Rattle.msc_reason.specs.PairTables.{has_pair}
use Rattle.msc_mark.specs.Kept.{accepts_some}
use Rattle.msc_mark.proofs.accepted.Accepted.pairs.Given as goal

-- the accepted races of the events so far are in the set
abbrev pub invariant-loop-e : goal.invariant-loop-e
invariant-loop-e l = record {
  reached : HasReached l.enforced.chart.events l.e l.walk;
  size : l.pairs.events ≡ length l.self.chart.events;
  put : (x y : ℕ) → has_pair l.pairs x y ≡ accepts_some l.self (races_below l.enforced l.e) x y;
}

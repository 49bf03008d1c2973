use Rattle.std.proofs.Common.{◌≡◌, ℕ, false, get_or, length}
use Rattle.msc_race.specs.Walks.{HasReached}
use Rattle.msc_race.proofs.Listing.Raced.{races_below}
use Rattle.msc_mark.specs.Accepting.{fits_some}
use Rattle.msc_mark.proofs.accepted.Accepted.fitting.Given as goal

abbrev pub invariant-loop-e : goal.invariant-loop-e
invariant-loop-e l = record {
  reached : HasReached l.enforced.chart.events l.e l.walk;
  size : length l.fitting.items ≡ length l.self.chart.events;
  noted : (x : ℕ) → get_or l.fitting.items x false ≡ fits_some l.self (races_below l.enforced l.e) x;
}

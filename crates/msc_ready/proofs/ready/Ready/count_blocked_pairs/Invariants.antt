use Rattle.std.proofs.Common.{◌≡◌, length}
use Rattle.msc_race.proofs.Listing.Pairs.{pairs_below}
use Rattle.msc_ready.proofs.Listing.{test}
use Rattle.msc_ready.proofs.ready.Ready.count_blocked_pairs.Given as goal

abbrev pub invariant-loop-e : goal.invariant-loop-e
invariant-loop-e l = l.total ≡ length (pairs_below (test l.self) (length l.self.chart.events) l.e)

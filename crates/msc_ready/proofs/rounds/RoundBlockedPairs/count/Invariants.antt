use Rattle.std.proofs.Common.{◌≡◌, length}
use Rattle.msc_race.proofs.Listing.Pairs.{pairs_below}
use Rattle.msc_ready.specs.Rounds.{is_between}
use Rattle.msc_ready.proofs.rounds.RoundBlockedPairs.count.Given as goal

abbrev pub invariant-loop-x : goal.invariant-loop-x
invariant-loop-x l =
    l.total ≡ length (pairs_below (is_between l.self.blocked_pairs.now l.self.numbers.now) (length l.self.blocked_pairs.now.chart.events) l.x)

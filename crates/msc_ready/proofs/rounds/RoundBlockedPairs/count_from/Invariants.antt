use Rattle.std.proofs.Common.{◌≡◌, length}
use Rattle.msc_chart.specs.Lists.{pairs_to}
use Rattle.msc_ready.specs.Rounds.{is_between}
use Rattle.msc_ready.proofs.rounds.RoundBlockedPairs.count_from.Given as goal

abbrev pub invariant-loop-y : goal.invariant-loop-y
invariant-loop-y l = l.count ≡ length (pairs_to (is_between l.self.blocked_pairs.now l.self.numbers.now) l.x l.y)

use Rattle.std.proofs.Common.{◌≡◌, ◌++◌}
use Rattle.msc_chart.specs.Lists.{pairs_to}
use Rattle.msc_ready.specs.Rounds.{is_between}
use Rattle.msc_ready.proofs.rounds.RoundBlockedPairs.push.Given as goal

abbrev pub invariant-loop-y : goal.invariant-loop-y
invariant-loop-y l = l.list.items ≡ l.initial.list.items ++ pairs_to (is_between l.self.blocked_pairs.now l.self.numbers.now) l.x l.y

use Rattle.std.proofs.Common.{◌≡◌, []}
use Rattle.msc_judge.proofs.BetweenLemmas.{told_below}
use Rattle.msc_judge.proofs.rounds.Rounds.has_none.Given as goal

abbrev pub invariant-loop-x : goal.invariant-loop-x
invariant-loop-x l = told_below l.self.numbers.now l.self.listing.now.judged l.self.listing.now.allowed l.x ≡ []

use Rattle.msc_ready.proofs.Between.{each_between}
use Rattle.msc_ready.proofs.rounds.RoundBlockedPairs.next.Goals as goal

pub returns-then-is_err-clause-blocked_pairs : goal.returns-then-is_err-clause-blocked_pairs
returns-then-is_err-clause-blocked_pairs c =
    each_between c.args.self.now.blocked_pairs.now c.args.self.now.numbers.now (rw c.ready.ensures at c.blocked_pairs_are_told.ensures) c.args.x

pub returns-else-is_err-clause-blocked_pairs : goal.returns-else-is_err-clause-blocked_pairs
returns-else-is_err-clause-blocked_pairs c =
    each_between c.args.self.now.blocked_pairs.now c.args.self.now.numbers.now (rw c.ready.ensures at c.blocked_pairs_are_told.ensures) c.args.x

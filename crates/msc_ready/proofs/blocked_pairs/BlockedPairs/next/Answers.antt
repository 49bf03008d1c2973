use Rattle.std.proofs.Common.{subst}
use Rattle.msc_ready.specs.Held.{ReadyChart}
use Rattle.msc_ready.specs.Views.{blocked_pairs_from, AreBlockedPairsFrom}
use Rattle.msc_ready.proofs.Listing.{each_from}
use Rattle.msc_ready.proofs.blocked_pairs.BlockedPairs.next.Goals as goal

pub returns-then-is_err-clause-blocked_pairs : goal.returns-then-is_err-clause-blocked_pairs
returns-then-is_err-clause-blocked_pairs c =
    subst (λ (r : ReadyChart). AreBlockedPairsFrom r c.args.e (blocked_pairs_from r c.args.e)) c.self.view_is (each_from c.self.inside.ready c.blocked_pairs_are_told.ensures c.args.e)

pub returns-else-is_err-clause-blocked_pairs : goal.returns-else-is_err-clause-blocked_pairs
returns-else-is_err-clause-blocked_pairs c =
    subst (λ (r : ReadyChart). AreBlockedPairsFrom r c.args.e (blocked_pairs_from r c.args.e)) c.self.view_is (each_from c.self.inside.ready c.blocked_pairs_are_told.ensures c.args.e)

use Rattle.std.proofs.Common.{subst}
use Rattle.msc_ready.specs.Held.{ReadyChart}
use Rattle.msc_ready.specs.Views.{blocked_pairs_of, AreBlockedPairs}
use Rattle.msc_ready.proofs.Listing.{are_blocked_pairs}
use Rattle.msc_ready.proofs.blocked_pairs.BlockedPairs.facts.Goals as goal

pub returns : goal.returns
returns c = subst (λ (r : ReadyChart). AreBlockedPairs r (blocked_pairs_of r)) c.self.view_is (are_blocked_pairs c.self.inside.ready c.blocked_pairs_are_told.ensures)

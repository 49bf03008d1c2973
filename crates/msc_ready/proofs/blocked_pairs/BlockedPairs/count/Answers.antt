use Rattle.std.proofs.Common.{◌≡◌, ◌↔◌, length, subst}
use Rattle.msc_race.proofs.Listing.Ascending.{of_ascends}
use Rattle.msc_ready.specs.Held.{ReadyChart, wiring_of, ready_in}
use Rattle.msc_ready.specs.BlockedPairs.{HasNoBlockedPair}
use Rattle.msc_ready.specs.Views.{blocked_pairs_of, AreBlockedPairs}
use Rattle.msc_ready.proofs.Listing.{are_blocked_pairs, none_listed, test}
use Rattle.msc_ready.proofs.blocked_pairs.BlockedPairs.count.Goals as goal

pub returns-clause-exact : goal.returns-clause-exact
returns-clause-exact c =
    subst (λ (r : ReadyChart). AreBlockedPairs r (blocked_pairs_of r)) c.self.view_is (are_blocked_pairs c.self.inside.ready c.blocked_pairs_are_told.ensures)

pub returns-clause-ascending : goal.returns-clause-ascending
returns-clause-ascending c =
    let r = c.args.self.now in
    of_ascends (test r) (length r.chart.events)

pub returns-clause-none : goal.returns-clause-none
returns-clause-none c =
    subst (λ (r : ReadyChart). (c.count_blocked_pairs.result ≡ 0) ↔ HasNoBlockedPair (wiring_of r) (ready_in r)) c.self.view_is
    (none_listed c.self.inside.ready c.blocked_pairs_are_told.ensures c.count_blocked_pairs.result c.count_blocked_pairs.ensures)

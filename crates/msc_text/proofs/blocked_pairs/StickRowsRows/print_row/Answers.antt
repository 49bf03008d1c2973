use Rattle.std.proofs.Common.{subst, arith}
use Rattle.msc_ready.specs.Views.{IsAheadOf}
use Rattle.msc_text.proofs.BlockedPairLemmas.{second_below, with_ahead}
use Rattle.msc_text.proofs.blocked_pairs.StickRowsRows.print_row.Goals as goal

pub bounds : goal.bounds
bounds g c =
    let self = c.args.self.now in
    let below = second_below self.blocked_pairs.now (g.N.StickNames.drawing self.names) self.ahead.now c.args.pair c.requires.pair in
    let each = c.requires.pair.has_ahead.each in
    omega (arith, below, each)

pub print_with-requires : goal.print_with-requires
print_with-requires g c =
    let self = c.args.self.now in
    let r = self.blocked_pairs.now in
    let d = g.N.StickNames.drawing self.names in
    let below = second_below r d self.ahead.now c.args.pair c.requires.pair in
    with_ahead r d self.ahead.now c.args.pair c.requires.pair c.in-Some.ahead
    (subst (IsAheadOf r c.args.pair.1) c.in-Some.is (c.requires.pair.has_ahead.ahead c.args.pair.1 below))

pub print_first-requires-clause-blocked_pair : goal.print_first-requires-clause-blocked_pair
print_first-requires-clause-blocked_pair g c =
    let self = c.args.self.now in
    let r = self.blocked_pairs.now in
    let below = second_below r (g.N.StickNames.drawing self.names) self.ahead.now c.args.pair c.requires.pair in
    record { blocked_pair = c.requires.pair.blocked_pair; none_ahead = subst (IsAheadOf r c.args.pair.1) c.in-None.is (c.requires.pair.has_ahead.ahead c.args.pair.1 below) }

use Rattle.std.proofs.Common.{length}
use Rattle.msc_race.proofs.Listing.Ascending.{of_ascends}
use Rattle.msc_ready.specs.Rounds.{is_between}
use Rattle.msc_ready.proofs.Between.{are_between}
use Rattle.msc_ready.proofs.rounds.RoundBlockedPairs.facts.Goals as goal

pub returns-clause-exact : goal.returns-clause-exact
returns-clause-exact c =
    are_between c.args.self.now.blocked_pairs.now c.args.self.now.numbers.now (rw c.ready.ensures at c.blocked_pairs_are_told.ensures)

pub returns-clause-ascending : goal.returns-clause-ascending
returns-clause-ascending c =
    let r = c.args.self.now.blocked_pairs.now in
    of_ascends (is_between r c.args.self.now.numbers.now) (length r.chart.events)

use Rattle.std.proofs.Common.{subst}
use Rattle.msc_race.proofs.Listing.Raced.{each_is_from, each_is_race}
use Rattle.msc_race.specs.Wired.{IsEnforced}
use Rattle.msc_race.proofs.enforced.Enforced.next_races.Goals as goal

pub returns-clause-races : goal.returns-clause-races
returns-clause-races c = each_is_race c.args.self.now (subst IsEnforced c.self.view_is c.self.invariant) c.args.e

pub returns-clause-first : goal.returns-clause-first
returns-clause-first c = each_is_from c.args.self.now c.args.e

use Rattle.msc_race.proofs.Listing.Raced.{race_events}
use Rattle.msc_judge.proofs.rows.RaceRows.finding_of.Goals as goal

pub returns-clause-named : goal.returns-clause-named
returns-clause-named g c =
    let known = race_events c.args.self.now.listing.now.judged c.args.race.0 c.args.race.1 c.requires in
    record { first = known.0; second = known.1; cause = c.cause_of.ensures.named }

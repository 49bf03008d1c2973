use Rattle.msc_race.proofs.Listing.Raced.{race_at}
use Rattle.msc_diagram.proofs.counting.keep_counting.Goals as goal

pub counts-requires : goal.counts-requires
counts-requires c = race_at c.args.enforced.now c.args.races.now c.loop-race.race-index c.loop-race-test.true c.requires

use Rattle.msc_mark.proofs.Pairing.{put_all}
use Rattle.msc_mark.proofs.accepted.Accepted.put_races.Goals as goal

pub returns-clause-put : goal.returns-clause-put
returns-clause-put c =
    put_all c.args.self.now c.args.pairs.now c.loop-race.pairs c.args.races.now c.loop-race.race-index c.loop-race-test.false c.loop-race.invariant.put

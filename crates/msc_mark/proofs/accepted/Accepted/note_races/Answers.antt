use Rattle.msc_mark.proofs.Noting.{noted_all}
use Rattle.msc_mark.proofs.accepted.Accepted.note_races.Goals as goal

pub returns-clause-noted : goal.returns-clause-noted
returns-clause-noted c =
    noted_all c.args.self.now c.args.fitting.now.items c.loop-race.fitting.items c.args.races.now c.loop-race.race-index c.loop-race-test.false c.loop-race.invariant.noted

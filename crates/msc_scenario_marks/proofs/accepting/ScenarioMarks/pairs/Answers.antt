use Rattle.std.proofs.Common.{◌∙◌, arith}
use Rattle.msc_scenario_marks.proofs.Putting.{all_put, known_at, put_more}
use Rattle.msc_scenario_marks.proofs.accepting.ScenarioMarks.pairs.Goals as goal

pub put_race-requires-clause-first : goal.put_race-requires-clause-first
put_race-requires-clause-first c =
    let known = known_at c.args.enforced.now c.facts.ensures.order c.args.races.now c.requires c.loop-race.race-index c.loop-race-test.true in
    let size = c.loop-race.invariant.size in
    omega (arith, known.0, size)

pub put_race-requires-clause-second : goal.put_race-requires-clause-second
put_race-requires-clause-second c =
    let known = known_at c.args.enforced.now c.facts.ensures.order c.args.races.now c.requires c.loop-race.race-index c.loop-race-test.true in
    let size = c.loop-race.invariant.size in
    omega (arith, known.1, size)

pub loop-race-preserved : goal.loop-race-preserved
loop-race-preserved c = record {
  size = c.put_race.ensures.size ∙ c.loop-race.invariant.size;
  put = put_more c.args.self.accepted.now c.args.self.arrows.now c.loop-race.pairs c.put_race.new.pairs c.args.races.now c.loop-race.race-index (0, 0) c.loop-race-test.true
      c.loop-race.invariant.put c.put_race.ensures.put;
}

pub returns : goal.returns
returns c =
    all_put c.args.self.accepted.now c.args.self.arrows.now c.loop-race.pairs c.args.races.now c.loop-race.race-index c.loop-race-test.false c.loop-race.invariant.put

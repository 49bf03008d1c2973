use Rattle.std.proofs.Common.{below_more, arith}
use Rattle.msc_ready.proofs.Shared.{before_parts, clash}
use Rattle.msc_ready.proofs.ready.Ready.next_race_left.Goals as goal

pub returns-then-is_race_left : goal.returns-then-is_race_left
returns-then-is_race_left c = record {
  itself = (c.loop-f.auto.f, c.is_race_left.ensures.0 c.if-is_race_left.true);
  none_below = λ y below race. c.loop-f.invariant y below race.0 race.1;
}

pub loop-f-preserved : goal.loop-f-preserved
loop-f-preserved c = below_more _ _ c.loop-f.invariant (λ low race. clash (c.is_race_left.ensures.1 race) c.if-is_race_left.false)

pub returns : goal.returns
returns c = λ y low race.
    let below = (before_parts c.args.self.now.chart.events c.args.e y race.0).1 in
    let last = c.loop-f-test.false in
    let all = c.events-f-end.ensures in
    c.loop-f.invariant y (omega (arith, below, last, all)) low race

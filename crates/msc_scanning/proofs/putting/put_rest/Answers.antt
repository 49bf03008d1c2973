use Rattle.msc_scanning.proofs.Folding.{all_done, at_end, at_place, one_more}
use Rattle.msc_scanning.specs.Putting.{Sees}
use Rattle.msc_scanning.proofs.putting.put_rest.Goals as goal

pub loop-one-preserved : goal.loop-one-preserved
loop-one-preserved g c =
    let l = c.loop-one in let y = c.in-Ok.ensures in let contents = g.O.Write.contents in let step = Sees c.args.plan c.args.target in let all = c.args.queues.now in
    one_more contents step all _ c.args.seen l.seen c.args.output.now l.output _ c.with_verdict-seen.result y.0 c.put_verdict.new.output
    (at_place contents step all c.args.seen l.seen l.one-index c.args.output.now l.output _ c.loop-one-test.true l.invariant)
    (c.in-Ok.verdict, c.with_verdict-seen.ensures, y.1) y.2

pub returns-clause-printed : goal.returns-clause-printed
returns-clause-printed g c =
    let l = c.loop-one in let contents = g.O.Write.contents in let step = Sees c.args.plan c.args.target in let all = c.args.queues.now in
    all_done contents step all c.args.seen l.seen c.args.output.now l.output
    (at_end contents step all c.args.seen l.seen l.one-index c.args.output.now l.output c.loop-one-test.false l.invariant)

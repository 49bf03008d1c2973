use Rattle.std.proofs.Common.{arith, refl}
use Rattle.msc_instance.specs.Threads.{rule}
use Rattle.msc_instance.proofs.Answered.{fewer_answers, one_answered, stopped}
use Rattle.msc_instance.proofs.threads.+run_rest.Goals as goal

pub push_reserved-requires : goal.push_reserved-requires
push_reserved-requires g t c =
    let fewer = fewer_answers c.args.chart.now (rule g.G.Gate.is_open (g.G.Gate.lets c.args.gate.now)) c.args.patience c.args.so_far.unstarted.items _ _ _
    c.in-Some.ensures.next.1 c.run_rest-all.ensures.answered in
    omega (arith, fewer, c.run_rest-all.ensures.room, c.requires.room)

pub returns-in-Err-clause-answered : goal.returns-in-Err-clause-answered
returns-in-Err-clause-answered g t c =
    stopped c.args.chart.now (rule g.G.Gate.is_open (g.G.Gate.lets c.args.gate.now)) c.args.patience c.args.so_far.unstarted.items _ _ c.args.so_far.answers.items _ _
    c.in-Some.ensures.next.1 c.requires.empty
    (rw c.in-Err.ensures.err at c.spawn_with-in-Err.ensures.answered) c.stop.ensures.stopped

pub returns-in-Ok-clause-answered : goal.returns-in-Ok-clause-answered
returns-in-Ok-clause-answered g t c =
    one_answered c.args.chart.now (rule g.G.Gate.is_open (g.G.Gate.lets c.args.gate.now)) c.args.patience c.args.so_far.unstarted.items _ _ _ c.run_rest-all.result _
    c.in-Some.ensures.next.1 c.run_rest-all.ensures.answered (rw (c.in-Ok.ensures.ok, c.of.ensures) at c.join.ensures)
    c.push_reserved.ensures.items refl

use Rattle.msc_answer.proofs.LineEvents.{two_known}
use Rattle.msc_answer.proofs.chart_answers.explain.Goals as goal

pub explain_pair-requires : goal.explain_pair-requires
explain_pair-requires g c =
    rw c.chart.ensures (two_known c.args.source.now c.args.explaining.first c.args.explaining.second c.in-Ok.pair.0 c.in-Ok.pair.1
    (rw c.in-Ok.is at c.in_ok-pair.ensures))

use Rattle.msc_chart.proofs.Drawn.{before_parts}
use Rattle.msc_draw.proofs.reversing.run_of.Goals as goal

pub reversing_run-requires-clause-e_known : goal.reversing_run-requires-clause-e_known
reversing_run-requires-clause-e_known c =
    (before_parts c.args.enforced.now.chart.events c.args.e c.args.f c.requires.0).0

pub reversing_run-requires-clause-f_known : goal.reversing_run-requires-clause-f_known
reversing_run-requires-clause-f_known c =
    (before_parts c.args.enforced.now.chart.events c.args.e c.args.f c.requires.0).1

use Rattle.msc_chart.proofs.Lines.{seen_range}
use Rattle.msc_chart.proofs.Readers.{seen_accepted}
use Rattle.msc_chart.proofs.chart.Chart.line.Goals as goal

pub returns-clause-range : goal.returns-clause-range
returns-clause-range c =
    seen_range c.args.self.now c.args.i _ _ (seen_accepted _ c.args.self.now c.self.view_is c.self.invariant.accepted) c.line_start.ensures c.line_start-2.ensures

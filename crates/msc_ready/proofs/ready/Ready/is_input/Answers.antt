use Rattle.std.proofs.Common.{not, ap, ◌∙◌}
use Rattle.msc_ready.proofs.Holding.{not_controlled}
use Rattle.msc_ready.proofs.ready.Ready.is_input.Goals as goal

pub returns : goal.returns
returns c = ap not (rw c.chart-chart.ensures at c.is_controlled.ensures) ∙ not_controlled c.args.self.now.chart.events c.args.e c.requires

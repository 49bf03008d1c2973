use Rattle.std.proofs.Common.{ap, ◌∙◌}
use Rattle.msc_chart.specs.Charts.{sends}
use Rattle.msc_chart.proofs.Drawn.{output_is}
use Rattle.msc_chart.proofs.chart.Chart.is_output.Goals as goal

pub returns : goal.returns
returns c = c.is_output.ensures ∙ ap sends c.kind.ensures ∙ output_is c.args.self.now.events c.args.e c.requires

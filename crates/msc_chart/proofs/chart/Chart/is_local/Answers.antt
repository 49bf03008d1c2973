use Rattle.std.proofs.Common.{ap, ◌∙◌}
use Rattle.msc_chart.specs.Charts.{acts}
use Rattle.msc_chart.proofs.Drawn.{local_is}
use Rattle.msc_chart.proofs.chart.Chart.is_local.Goals as goal

pub returns : goal.returns
returns c = c.is_local.ensures ∙ ap acts c.kind.ensures ∙ local_is c.args.self.now.events c.args.e c.requires

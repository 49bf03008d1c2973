use Rattle.std.proofs.Common.{ap, ◌∙◌}
use Rattle.msc_chart.specs.Charts.{controls}
use Rattle.msc_chart.proofs.Drawn.{controlled_is}
use Rattle.msc_chart.proofs.chart.Chart.is_controlled.Goals as goal

pub returns : goal.returns
returns c = c.is_controlled.ensures ∙ ap controls c.kind.ensures ∙ controlled_is c.args.self.now.events c.args.e c.requires

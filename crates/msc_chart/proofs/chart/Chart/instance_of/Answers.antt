use Rattle.std.proofs.Common.{refl, ap}
use Rattle.msc_chart.specs.Charts.{line}
use Rattle.msc_chart.proofs.Readers.{seen_at}
use Rattle.msc_chart.proofs.chart.Chart.instance_of.Goals as goal

pub returns : goal.returns
unfolding line
returns c = ap (λ v. v.line) (seen_at _ _ c.self.view_is _ c.args.e _ refl c.requires c.index.ensures)

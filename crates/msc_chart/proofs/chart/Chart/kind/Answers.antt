use Rattle.std.proofs.Common.{refl, ap}
use Rattle.msc_chart.specs.Charts.{kind}
use Rattle.msc_chart.proofs.Readers.{seen_at}
use Rattle.msc_chart.proofs.chart.Chart.kind.Goals as goal

pub returns : goal.returns
unfolding kind
returns c = ap (λ v. v.kind) (seen_at _ _ c.self.view_is _ c.args.e _ refl c.requires c.index.ensures)

use Rattle.std.proofs.Common.{ap}
use Rattle.msc_chart.specs.Drawings.{output_of}
use Rattle.msc_chart.proofs.Readers.{seen_message}
use Rattle.msc_chart.proofs.chart.Chart.output_of.Goals as goal

pub returns : goal.returns
unfolding output_of
returns c = ap (λ v. v.output) (seen_message _ _ c.self.view_is _ c.as_slice.ensures c.args.m _ c.requires c.index-as_slice-m.is)

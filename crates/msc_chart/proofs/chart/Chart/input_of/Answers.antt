use Rattle.std.proofs.Common.{ap, arith}
use Rattle.msc_chart.specs.Charts.{partner}
use Rattle.msc_chart.specs.Drawings.{input_of}
use Rattle.msc_chart.proofs.Readers.{seen_accepted, seen_within, seen_at, output_in}
use Rattle.msc_chart.proofs.chart.Chart.input_of.Goals as goal

pub index-requires : goal.index-requires
index-requires c =
    let accepted = seen_accepted _ c.args.self.now c.self.view_is c.self.invariant.accepted in
    omega (arith, seen_within _ c.args.self.now c.self.view_is _ _ c.output_of.ensures (output_in c.args.self.now accepted c.args.m c.requires))

pub returns : goal.returns
unfolding input_of partner
returns c =
    let accepted = seen_accepted _ c.args.self.now c.self.view_is c.self.invariant.accepted in
    ap (λ v. v.partner) (seen_at _ c.args.self.now c.self.view_is _ _ _ c.output_of.ensures (output_in c.args.self.now accepted c.args.m c.requires) c.index.ensures)

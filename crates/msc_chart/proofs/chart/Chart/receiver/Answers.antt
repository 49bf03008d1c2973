use Rattle.std.proofs.Common.{ap, arith}
use Rattle.msc_chart.specs.Charts.{line}
use Rattle.msc_chart.specs.Drawings.{receiver_of}
use Rattle.msc_chart.proofs.Readers.{seen_accepted, seen_within, seen_at, input_in, receiver_in}
use Rattle.msc_chart.proofs.chart.Chart.receiver.Goals as goal

pub index-requires : goal.index-requires
index-requires c =
    let accepted = seen_accepted _ c.args.self.now c.self.view_is c.self.invariant.accepted in
    omega (arith, seen_within _ c.args.self.now c.self.view_is _ _ c.input_of.ensures (input_in c.args.self.now accepted c.args.m c.requires))

pub returns-clause-value : goal.returns-clause-value
unfolding receiver_of line
returns-clause-value c =
    let accepted = seen_accepted _ c.args.self.now c.self.view_is c.self.invariant.accepted in
    ap (λ v. v.line) (seen_at _ c.args.self.now c.self.view_is _ _ _ c.input_of.ensures (input_in c.args.self.now accepted c.args.m c.requires) c.index.ensures)

pub returns-clause-known : goal.returns-clause-known
unfolding receiver_of line
returns-clause-known c =
    let accepted = seen_accepted _ c.args.self.now c.self.view_is c.self.invariant.accepted in
    let at = seen_at _ c.args.self.now c.self.view_is _ _ _ c.input_of.ensures (input_in c.args.self.now accepted c.args.m c.requires) c.index.ensures in
    omega (arith, ap (λ v. v.line) at, receiver_in c.args.self.now accepted c.args.m c.requires)

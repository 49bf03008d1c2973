use Rattle.std.proofs.Common.{arith}
use Rattle.msc_chart.proofs.RoundParts.{span_many, span_read}
use Rattle.msc_chart.proofs.rounds.Rounds.span.Goals as goal

pub bounds-self-instance_of : goal.bounds-self-instance_of
bounds-self-instance_of c =
    let many = span_many c.args.self.now c.requires.spans in
    let on = c.facts.ensures.on_lines.on_line c.args.e c.requires.known in
    omega (arith, many, on, c.instance_of.ensures)

pub returns : goal.returns
returns c =
    span_read c.args.self.now c.requires.spans c.facts.ensures c.args.e c.instance_of.result c.requires.known c.instance_of.ensures _

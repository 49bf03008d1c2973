use Rattle.std.proofs.Common.{arith}
use Rattle.msc_chart.proofs.Drawn.{input_parts}
use Rattle.msc_reason.proofs.chaining.first_mate.Goals as goal

pub returns : goal.returns
returns c =
    let mate = c.requires.some in
    let known = (input_parts c.args.enforced.now.chart.events mate.0 mate.1.0.second).0 in
    absurd (c.loop-u.invariant mate.0 (omega (arith, known, c.events-u-end.ensures, c.loop-u-test.false)) mate.1)

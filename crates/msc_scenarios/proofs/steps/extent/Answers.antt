use Rattle.std.proofs.Common.{◌+◌, drop, sym, ap, arith}
use Rattle.msc_scenarios.specs.Steps.{extent}
use Rattle.msc_scenarios.proofs.StepLemmas.{extent_here, extent_on, extent_end}
use Rattle.msc_scenarios.proofs.steps.extent.Goals as goal

pub returns-then-ends_at-clause-value : goal.returns-then-ends_at-clause-value
returns-then-ends_at-clause-value c =
    let l = c.loop-i in let p = c.index-statements-i.result in
    let here = extent_here l.depth c.args.statements.now l.i p c.loop-i-test.true (sym c.if-ends_at.ensures) in
    omega (arith, here, l.invariant.0)

pub loop-i-preserved : goal.loop-i-preserved
loop-i-preserved c =
    let l = c.loop-i in let p = c.index-statements-i.result in
    let on = extent_on l.depth c.args.statements.now l.i p c.loop-i-test.true (sym c.if-ends_at.ensures) in
    let same = ap (λ d. extent d (drop (l.i + 1) c.args.statements.now)) c.deeper-depth.ensures.value in
    (omega (arith, on, l.invariant.0, same), omega (arith, c.deeper-depth.ensures.most, l.invariant.1))

pub returns-clause-value : goal.returns-clause-value
returns-clause-value c =
    let l = c.loop-i in
    omega (arith, extent_end l.depth c.args.statements.now l.i c.loop-i-test.false, l.invariant.0)

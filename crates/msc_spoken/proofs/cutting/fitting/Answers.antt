use Rattle.std.proofs.Common.{arith}
use Rattle.msc_spoken.proofs.CuttingLemmas.{one_fits, no_more_fits, end_fits}
use Rattle.msc_spoken.proofs.cutting.fitting.Goals as goal

pub returns-then-width-left-clause-value : goal.returns-then-width-left-clause-value
returns-then-width-left-clause-value c =
    let l = c.loop-i in
    omega (
      arith,
      l.invariant,
      no_more_fits l.left c.args.characters.now l.i c.index-characters-i.result c.width-width.result c.loop-i-test.true c.index-characters-i.is c.width-width.ensures.value c.if-width-left.true,
    )

pub loop-i-preserved : goal.loop-i-preserved
loop-i-preserved c =
    let l = c.loop-i in
    omega (
      arith,
      l.invariant,
      one_fits l.left c.args.characters.now l.i c.index-characters-i.result c.width-width.result c.loop-i-test.true c.index-characters-i.is c.width-width.ensures.value (omega (arith, c.if-width-left.false)),
    )

pub returns-clause-value : goal.returns-clause-value
returns-clause-value c =
    let l = c.loop-i in
    omega (arith, l.invariant, end_fits l.left c.args.characters.now l.i (omega (arith, c.loop-i-test.false)))

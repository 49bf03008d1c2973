use Rattle.std.proofs.Common.{◌≡◌, ◌+◌, ◌==◌, false, drop, sym, ap, ◌∙◌, arith, tests}
use Rattle.msc_markdown.specs.Marks.{quoted}
use Rattle.msc_markdown.proofs.MarkLemmas.{quoted_stop, quoted_on, quoted_end}
use Rattle.msc_markdown.proofs.marks.quoted.Goals as goal

pub returns-then-left-eq0-clause-length : goal.returns-then-left-eq0-clause-length
returns-then-left-eq0-clause-length c =
    let l = c.loop-i in
    omega (arith, quoted_stop c.args.bytes.now l.i l.left c.loop-i-test.true c.if-left-eq0.true, l.invariant)

pub loop-i-preserved : goal.loop-i-preserved
loop-i-preserved c =
    let l = c.loop-i in
    let some : (l.left == 0) ≡ false = search (arith, tests) in
    omega (arith, quoted_on c.args.bytes.now l.i l.left c.loop-i-test.true c.less-left.result some c.less-left.ensures, l.invariant)

pub returns-clause-length : goal.returns-clause-length
returns-clause-length c =
    omega (arith, quoted_end c.args.bytes.now c.loop-i.i c.loop-i.left c.loop-i-test.false, c.loop-i.invariant, c.loop-i.auto.i-end, c.loop-i-test.false)

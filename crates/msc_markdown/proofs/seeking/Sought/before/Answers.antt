use Rattle.std.proofs.Common.{sym, ap, ◌∙◌, arith}
use Rattle.std.proofs.lemmas.List.{take_rest}
use Rattle.msc_markdown.specs.Seeking.{is_here}
use Rattle.msc_markdown.proofs.SeekLemmas.{before_here, before_on, before_end}
use Rattle.msc_markdown.proofs.seeking.Sought.before.Goals as goal

pub returns-then-is_here-clause-value : goal.returns-then-is_here-clause-value
returns-then-is_here-clause-value c =
    let s = c.args.self in let bytes = c.args.bytes.now in let i = c.loop-i.i in
    let here = sym (ap (is_here s) (take_rest bytes i)) ∙ sym c.if-is_here.ensures in
    omega (arith, before_here s bytes i c.loop-i-test.true here, c.loop-i.invariant)

pub loop-i-preserved : goal.loop-i-preserved
loop-i-preserved c =
    let s = c.args.self in let bytes = c.args.bytes.now in let i = c.loop-i.i in
    let other = sym (ap (is_here s) (take_rest bytes i)) ∙ sym c.if-is_here.ensures in
    omega (arith, before_on s bytes i c.loop-i-test.true other, c.loop-i.invariant)

pub returns-clause-value : goal.returns-clause-value
returns-clause-value c =
    omega (arith, before_end c.args.self c.args.bytes.now c.loop-i.i c.loop-i-test.false, c.loop-i.invariant)

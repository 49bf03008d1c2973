use Rattle.std.proofs.Common.{◌≡◌, ◌+◌, ◌==◌, false, drop, sym, ap, ◌∙◌, arith, tests}
use Rattle.std.proofs.lemmas.List.{take_rest}
use Rattle.msc_markdown.specs.Marks.{ahead, marks}
use Rattle.msc_markdown.proofs.MarkLemmas.{marks_stop, marks_on, marks_end}
use Rattle.msc_markdown.proofs.marks.marks.Goals as goal

pub returns-then-here-eq0-clause-length : goal.returns-then-here-eq0-clause-length
returns-then-here-eq0-clause-length c =
    let l = c.loop-i in let bytes = c.args.bytes.now in
    let here = sym (ap (ahead l.left) (take_rest bytes l.i)) ∙ sym c.ahead-here.ensures in
    omega (arith, marks_stop bytes l.i l.left c.loop-i-test.true _ here c.if-here-eq0.true, l.invariant)

pub loop-i-preserved : goal.loop-i-preserved
loop-i-preserved c =
    let l = c.loop-i in let bytes = c.args.bytes.now in
    let here = sym (ap (ahead l.left) (take_rest bytes l.i)) ∙ sym c.ahead-here.ensures in
    let some : (c.ahead-here.result == 0) ≡ false = search (arith, tests) in
    omega (arith, marks_on bytes l.i l.left c.loop-i-test.true _ here some, ap (λ n. marks n (drop (l.i + 1) bytes)) c.after-left.ensures, l.invariant)

pub returns-clause-length : goal.returns-clause-length
returns-clause-length c =
    omega (arith, marks_end c.args.bytes.now c.loop-i.i c.loop-i.left c.loop-i-test.false, c.loop-i.invariant, c.loop-i.auto.i-end, c.loop-i-test.false)

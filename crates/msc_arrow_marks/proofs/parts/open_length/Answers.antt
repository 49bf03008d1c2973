use Rattle.std.proofs.Common.{◌≡◌, ◌+◌, drop, get_or, ap, sym, ◌∙◌, true, false, arith}
use Rattle.msc_arrow_marks.specs.Parts.{open_length, separates}
use Rattle.msc_arrow_marks.proofs.PartLemmas.{open_length_ends, open_length_goes_on, open_length_over}
use Rattle.msc_arrow_marks.proofs.parts.open_length.Goals as goal

pub returns-then-separates-clause-length : goal.returns-then-separates-clause-length
returns-then-separates-clause-length c =
    let l = c.loop-i in let bytes = c.args.bytes.now in
    let here : separates c.args.separator l.quoted (get_or bytes l.i 0) ≡ true = sym c.separates.ensures ∙ c.if-separates.true in
    omega (arith, open_length_ends c.args.separator l.quoted bytes l.i c.loop-i-test.true here, l.invariant)

pub loop-i-preserved : goal.loop-i-preserved
loop-i-preserved c =
    let l = c.loop-i in let bytes = c.args.bytes.now in
    let other : separates c.args.separator l.quoted (get_or bytes l.i 0) ≡ false = sym c.separates.ensures ∙ c.if-separates.false in
    omega (arith, open_length_goes_on c.args.separator l.quoted bytes l.i c.loop-i-test.true other, ap (λ q. open_length c.args.separator q (drop (l.i + 1) bytes)) c.quoted_after-quoted.ensures, l.invariant)

pub returns-clause-length : goal.returns-clause-length
returns-clause-length c =
    let l = c.loop-i in
    omega (arith, open_length_over c.args.separator l.quoted c.args.bytes.now l.i c.loop-i-test.false, l.invariant, l.auto.i-end, c.loop-i-test.false)

use Rattle.std.proofs.Common.{◌≡◌, drop, ap, sym, ◌∙◌, true, false, arith}
use Rattle.std.proofs.lemmas.List.{take_rest}
use Rattle.msc_arrow_marks.specs.Heads.{begins_with}
use Rattle.msc_arrow_marks.proofs.HeadLemmas.{with_place_ends, with_place_goes_on, with_place_over}
use Rattle.msc_arrow_marks.proofs.head.with_place.Goals as goal

pub returns-then-begins_with-clause-place : goal.returns-then-begins_with-clause-place
returns-then-begins_with-clause-place c =
    let l = c.loop-i in let text = c.args.text.now in
    let here : begins_with (drop l.i text) ≡ true = sym (ap begins_with (take_rest text l.i)) ∙ sym c.begins_with.ensures ∙ c.if-begins_with.true in
    omega (arith, with_place_ends text l.i c.loop-i-test.true here, l.invariant)

pub loop-i-preserved : goal.loop-i-preserved
loop-i-preserved c =
    let l = c.loop-i in let text = c.args.text.now in
    let other : begins_with (drop l.i text) ≡ false = sym (ap begins_with (take_rest text l.i)) ∙ sym c.begins_with.ensures ∙ c.if-begins_with.false in
    omega (arith, with_place_goes_on text l.i c.loop-i-test.true other, l.invariant)

pub returns-clause-place : goal.returns-clause-place
returns-clause-place c =
    let l = c.loop-i in
    omega (arith, with_place_over c.args.text.now l.i c.loop-i-test.false, l.invariant, l.auto.i-end, c.loop-i-test.false)

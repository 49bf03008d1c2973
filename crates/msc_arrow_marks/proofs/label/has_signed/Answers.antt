use Rattle.std.proofs.Common.{◌≡◌, true, false, drop, ap, sym, ◌∙◌}
use Rattle.std.proofs.lemmas.List.{take_rest}
use Rattle.msc_arrow_marks.specs.Labels.{is_signed}
use Rattle.msc_arrow_marks.proofs.LabelLemmas.{has_signed_behind, has_signed_here, has_signed_over, now}
use Rattle.msc_arrow_marks.proofs.label.has_signed.Goals as goal

pub returns-then-is_signed : goal.returns-then-is_signed
returns-then-is_signed c =
    let l = c.loop-i in let pieces = c.args.pieces.now in
    let here : is_signed (now (drop l.i pieces)) ≡ true = sym (ap (λ t. is_signed (now t)) (take_rest pieces l.i)) ∙ sym c.is_signed.ensures ∙ c.if-is_signed.true in
    sym (has_signed_here pieces l.i c.loop-i-test.true here) ∙ l.invariant

pub loop-i-preserved : goal.loop-i-preserved
loop-i-preserved c =
    let l = c.loop-i in let pieces = c.args.pieces.now in
    let other : is_signed (now (drop l.i pieces)) ≡ false = sym (ap (λ t. is_signed (now t)) (take_rest pieces l.i)) ∙ sym c.is_signed.ensures ∙ c.if-is_signed.false in
    sym (has_signed_behind pieces l.i c.loop-i-test.true other) ∙ l.invariant

pub returns : goal.returns
returns c =
    let l = c.loop-i in
    sym (has_signed_over c.args.pieces.now l.i c.loop-i-test.false) ∙ l.invariant

use Rattle.std.proofs.Common.{◌≡◌, length, slice_range, refl, ap, sym, ◌∙◌, arith}
use Rattle.msc_arrow_marks.proofs.PartLemmas.{now, parts_met, parts_over, parts_same}
use Rattle.msc_arrow_marks.proofs.parts.open_parts.Goals as goal
use Rattle.msc_arrow_marks.proofs.parts.open_parts.Goals.{then-separates+in_ok-push, else-separates}

pub loop-i-preserved : goal.loop-i-preserved
loop-i-preserved c =
    let l = c.loop-i in let bytes = c.args.bytes.now in let s = c.args.separator in
    let met = parts_met s bytes l.parts.items l.quoted l.start l.i c.loop-i-test.true c.if-separates.parts.items c.quoted_after-quoted.result c.if-separates.start c.quoted_after-quoted.ensures in
    let same = parts_same s bytes l.parts.items l.quoted l.start l.i c.loop-i-test.true c.if-separates.parts.items c.quoted_after-quoted.result c.if-separates.start c.quoted_after-quoted.ensures in
    elim c.if-separates.branch [
      | then-separates+in_ok-push w ↦ record {
        within = omega (arith, w.start-is);
        parts = met _ (ap (λ v. v.items) w.parts-is ∙ w.in_ok-push.ensures.items) refl w.start-is (sym c.separates.ensures ∙ w.if-separates.true) ∙ l.invariant.parts;
      }
      | else-separates w ↦ record {
        within = omega (arith, w.start-is, l.invariant.within);
        parts = same (ap (λ v. v.items) w.parts-is) w.start-is l.invariant.within (sym c.separates.ensures ∙ w.if-separates.false) ∙ l.invariant.parts;
      }
    ]

pub returns : goal.returns
returns c =
    let l = c.loop-i in let bytes = c.args.bytes.now in
    let over : length bytes ≡ l.i = omega (arith, c.loop-i-test.false, l.auto.i-end) in
    let whole : slice_range bytes l.start (length bytes) ≡ slice_range bytes l.start l.i = ap (slice_range bytes l.start) over in
    ap now c.in_ok-push-2.ensures.items
    ∙ sym (parts_over c.args.separator bytes l.parts.items l.quoted l.start l.i _ whole c.loop-i-test.false)
    ∙ l.invariant.parts

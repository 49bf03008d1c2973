use Rattle.std.proofs.Common.{◌≡◌, IfOk, sym, ◌∙◌, subst}
use Rattle.msc_mermaid.proofs.PlaceLemmas.{place_here, place_later, place_nowhere}
use Rattle.msc_mermaid.proofs.part.first_place.Goals as goal

pub returns-then-not-is_white : goal.returns-then-not-is_white
returns-then-not-is_white c =
    let parts = c.args.parts.now in
    let is = sym c.is_white.ensures ∙ c.if-not-is_white.true in
    subst (λ x. IfOk c.place_in.result (λ p. p ≡ x)) (sym (place_here parts c.loop-i.i c.args.end _ c.loop-i-test.true is) ∙ c.loop-i.invariant) c.place_in.ensures

pub loop-i-preserved : goal.loop-i-preserved
loop-i-preserved c =
    let parts = c.args.parts.now in
    let is = sym c.is_white.ensures ∙ c.if-not-is_white.false in
    sym (place_later parts c.loop-i.i c.args.end _ c.loop-i-test.true is) ∙ c.loop-i.invariant

pub returns : goal.returns
returns c =
    sym (place_nowhere c.args.parts.now c.loop-i.i c.args.end c.loop-i-test.false) ∙ c.loop-i.invariant

use Rattle.std.proofs.Common.{subst, ◌∙◌, sym, ap}
use Rattle.std.proofs.lemmas.Result.{err_from_is_err_and}
use Rattle.msc_import.specs.Drafting.{drawn}
use Rattle.msc_mermaid.specs.Gives.{Fails}
use Rattle.msc_import.proofs.WholeLemmas.{drawn_end, drawn_more, drawn_stop}
use Rattle.msc_import.proofs.drawings.try_others.Goals as goal

pub returns-in_err-draw : goal.returns-in_err-draw
returns-in_err-draw c =
    let l = c.loop-i in
    let p = err_from_is_err_and c.from_residual.result c.from_residual.ensures.1 in
    let manner = c.args.manner in let name = c.args.name.now in let d = c.args.diagram.now in
    let fault = c.in_err-draw.field-0.0 in
    let there = subst (λ x. Fails fault (drawn manner name d x)) (c.as_slice.ensures ∙ c.index-lists-i.is) c.in_err-draw.ensures.drawn in
    rw (p.1, p.2) (drawn_stop manner name d c.args.lists.now l.i c.index-lists-i.result c.loop-i-test.true fault there l.invariant)

pub loop-i-preserved : goal.loop-i-preserved
loop-i-preserved c =
    let l = c.loop-i in
    let manner = c.args.manner in let name = c.args.name.now in let d = c.args.diagram.now in
    let is = sym (ap (drawn manner name d) (c.as_slice.ensures ∙ c.index-lists-i.is)) ∙ c.in_ok-draw.ensures.drawn in
    drawn_more manner name d c.args.lists.now l.i c.index-lists-i.result c.loop-i-test.true _ is c.in_ok-draw.ensures.again l.invariant

pub returns : goal.returns
returns c =
    let l = c.loop-i in
    drawn_end c.args.manner c.args.name.now c.args.diagram.now c.args.lists.now l.i c.loop-i-test.false l.invariant

use Rattle.std.proofs.Common.{◌≡◌, ◌+◌, length, subst, sym, ap, ◌∙◌}
use Rattle.std.proofs.lemmas.Result.{err_from_is_err_and}
use Rattle.msc_mermaid.specs.Gives.{Fails}
use Rattle.msc_import.specs.Drawings.{scenario_with, AreFirst}
use Rattle.msc_import.proofs.WholeLemmas.{first_more, first_stop}
use Rattle.msc_import.proofs.drawings.draw_first.Goals as goal

pub returns-in_err-scenario-clause-fails : goal.returns-in_err-scenario-clause-fails
returns-in_err-scenario-clause-fails c =
    let l = c.loop-given in
    let p = err_from_is_err_and c.from_residual.result c.from_residual.ensures.1 in
    let manner = c.args.manner in let name = c.args.name.now in let d = c.args.diagram.now in
    let fault = c.in_err-scenario.field-0.0 in
    let there = subst (λ x. Fails fault (scenario_with manner name d x)) c.given-item.is c.in_err-scenario.ensures.given in
    rw (p.1, p.2) (first_stop manner name d c.args.lists.now l.first.items l.given-index c.given-item.result c.loop-given-test.true l.invariant.0 l.invariant.1 fault there)

pub loop-given-preserved : goal.loop-given-preserved
loop-given-preserved c =
    let l = c.loop-given in
    let manner = c.args.manner in let name = c.args.name.now in let d = c.args.diagram.now in
    let is = sym (ap (scenario_with manner name d) c.given-item.is) ∙ c.in_ok-scenario.ensures.given in
    subst (λ first. (length first ≡ l.given-index + 1) × AreFirst manner name d c.args.lists.now first) (sym c.in_ok-push.ensures.items)
    (first_more manner name d c.args.lists.now l.first.items l.given-index c.given-item.result c.loop-given-test.true l.invariant.0 l.invariant.1 c.in_ok-scenario.scenario is c.in_ok-scenario.ensures.again)

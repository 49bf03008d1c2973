use Rattle.std.proofs.Common.{[], sym, ap, ◌∙◌, subst}
use Rattle.std.proofs.lemmas.Result.{err_from_is_err_and}
use Rattle.msc_import.specs.Plans.{planned_all}
use Rattle.msc_mermaid.specs.Gives.{Fails}
use Rattle.msc_import.proofs.PlanLemmas.{plans_more, plans_fail, plans_end}
use Rattle.msc_import.proofs.plan.plans_of.Goals as goal

pub returns-in_err-step_all : goal.returns-in_err-step_all
returns-in_err-step_all c =
    let l = c.loop-step in let p = err_from_is_err_and c.from_residual-in_err-step_all.result c.from_residual-in_err-step_all.ensures.1 in
    let manner = c.args.manner in let e = c.in_err-step_all.field-0.0 in
    let there = subst (λ s. Fails e (planned_all manner s [] l.plans.items)) c.step-item.is c.in_err-step_all.ensures in
    rw (p.1, p.2, ← l.invariant) (plans_fail manner c.args.steps.now l.step-index l.plans.items c.step-item.result c.loop-step-test.true e there)

pub loop-step-preserved : goal.loop-step-preserved
loop-step-preserved c =
    let l = c.loop-step in let manner = c.args.manner in
    sym (plans_more manner c.args.steps.now l.step-index l.plans.items c.step-item.result c.loop-step-test.true c.step_all.new.plans.items (sym (ap (λ s. planned_all manner s [] l.plans.items) c.step-item.is) ∙ c.in_ok-step_all.ensures)) ∙ l.invariant

pub returns : goal.returns
returns c =
    let l = c.loop-step in
    sym l.invariant ∙ plans_end c.args.manner c.args.steps.now l.step-index l.plans.items c.loop-step-test.false

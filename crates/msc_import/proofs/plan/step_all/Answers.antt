use Rattle.std.proofs.Common.{◌<◌, ◌≤◌, sym, ap, ◌∙◌, subst}
use Rattle.std.proofs.lemmas.List.{length-set}
use Rattle.std.proofs.lemmas.Result.{err_from_is_err_and}
use Rattle.msc_import.specs.Plans.{planned}
use Rattle.msc_mermaid.specs.Gives.{Fails}
use Rattle.msc_import.proofs.PlanLemmas.{all_more, all_fails, all_end}
use Rattle.msc_import.proofs.plan.step_all.Goals as goal

pub returns-in_err-step : goal.returns-in_err-step
returns-in_err-step c =
    let l = c.loop-line in
    let p = err_from_is_err_and c.from_residual.result c.from_residual.ensures.1 in
    let manner = c.args.manner in
    let e = c.in_err-step.field-0.0 in
    let inside = subst (λ n. l.line < n) (sym (l.invariant.room ∙ sym c.args.plans.now.ok.0 ∙ sym c.len-line-end.ensures)) c.loop-line-test.true in
    let there = subst (λ q. Fails e (planned manner l.line c.args.step.now q)) c.index_mut.ensures.value c.in_err-step.ensures in
    rw (p.1, p.2, ← l.invariant.taken) (all_fails manner c.args.step.now l.plans.items l.line c.index_mut.result.now inside e there)

pub loop-line-preserved : goal.loop-line-preserved
loop-line-preserved c =
    let l = c.loop-line in
    let manner = c.args.manner in
    let next = c.step.new.self in
    let inside = subst (λ n. l.line < n) (sym (l.invariant.room ∙ sym c.args.plans.now.ok.0 ∙ sym c.len-line-end.ensures)) c.loop-line-test.true in
    let stepped = sym (ap (planned manner l.line c.args.step.now) c.index_mut.ensures.value) ∙ c.in_ok-step.ensures in
    record {
      room = length-set l.plans.items l.line next ∙ l.invariant.room;
      taken = sym (all_more manner c.args.step.now l.plans.items l.line c.index_mut.result.now inside next stepped) ∙ l.invariant.taken;
    }

pub returns : goal.returns
returns c =
    let l = c.loop-line in
    let over = subst (λ n. n ≤ l.line) (sym (l.invariant.room ∙ sym c.args.plans.now.ok.0 ∙ sym c.len-line-end.ensures)) c.loop-line-test.false in
    sym l.invariant.taken ∙ all_end c.args.manner c.args.step.now l.plans.items l.line over

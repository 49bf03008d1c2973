use Rattle.std.proofs.Common.{◌+◌, sym, ◌∙◌}
use Rattle.std.proofs.lemmas.Result.{err_from_is_err_and}
use Rattle.msc_mermaid.proofs.MermaidLemmas.{steps_next, steps_fail, steps_end}
use Rattle.msc_mermaid.proofs.progress.Progress.steps.Goals as goal

pub returns-in_err-step : goal.returns-in_err-step
returns-in_err-step c =
    let l = c.loop-i in let p = err_from_is_err_and c.from_residual.result c.from_residual.ensures.1 in
    rw (p.1, p.2, ← l.invariant) (steps_fail (λ x. x.now) c.args.lines.now l.i c.args.cross c.args.starts.now (l.i + 1) l.self _ c.loop-i-test.true _ c.start_on-start.ensures _ c.in_err-step.ensures)

pub loop-i-preserved : goal.loop-i-preserved
loop-i-preserved c =
    let l = c.loop-i in
    sym (steps_next (λ x. x.now) c.args.lines.now l.i c.args.cross c.args.starts.now (l.i + 1) l.self _ c.loop-i-test.true _ c.start_on-start.ensures c.step.new.self c.in_ok-step.ensures) ∙ l.invariant

pub returns : goal.returns
returns c =
    let l = c.loop-i in
    sym l.invariant ∙ steps_end (λ x. x.now) c.args.lines.now l.i c.args.cross c.args.starts.now (l.i + 1) l.self c.loop-i-test.false

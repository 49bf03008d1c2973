use Rattle.std.proofs.Common.{sym, ◌∙◌}
use Rattle.std.proofs.lemmas.Result.{err_from_is_err_and}
use Rattle.msc_mermaid.specs.Parts.{stretch}
use Rattle.msc_mermaid.proofs.PartLemmas.{parts_next, parts_fail, parts_end}
use Rattle.msc_mermaid.proofs.progress.Progress.parts.Goals as goal

pub returns-in_err-part : goal.returns-in_err-part
returns-in_err-part c =
    let l = c.loop-i in let p = err_from_is_err_and c.from_residual.result c.from_residual.ensures.1 in
    rw (p.1, p.2, ← l.invariant) (parts_fail stretch c.args.parts.now l.i c.args.markup c.args.cross c.args.starts.now l.self _ c.loop-i-test.true _ c.in_err-part.ensures)

pub loop-i-preserved : goal.loop-i-preserved
loop-i-preserved c =
    let l = c.loop-i in
    sym (parts_next stretch c.args.parts.now l.i c.args.markup c.args.cross c.args.starts.now l.self _ c.loop-i-test.true c.part.new.self c.in_ok-part.ensures) ∙ l.invariant

pub returns : goal.returns
returns c =
    let l = c.loop-i in
    sym l.invariant ∙ parts_end stretch c.args.parts.now l.i c.args.markup c.args.cross c.args.starts.now l.self c.loop-i-test.false

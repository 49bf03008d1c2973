use Rattle.std.proofs.Common.{sym, ◌∙◌}
use Rattle.std.proofs.lemmas.Result.{err_from_is_err_and}
use Rattle.msc_answer.specs.Own.{ShowsInDiagram}
use Rattle.msc_answer.proofs.OwnLemmas.{found_so, none_so, refused_here, said_at_end, said_later}
use Rattle.msc_answer.proofs.own.own_in_diagram.Goals as goal

pub returns-in_err-own : goal.returns-in_err-own
returns-in_err-own c =
    let text = c.args.text.now in let l = c.loop-comment in
    let p = err_from_is_err_and c.from_residual.result c.from_residual.ensures.1 in
    rw (p.1, p.2) (refused_here text c.args.comments.now l.comment-index _ c.loop-comment-test.true (ShowsInDiagram text) l.invariant _ c.in_err-own.ensures)

pub returns-then-is_some : goal.returns-then-is_some
returns-then-is_some c =
    let text = c.args.text.now in let l = c.loop-comment in
    found_so text c.args.comments.now l.comment-index _ c.loop-comment-test.true (ShowsInDiagram text) l.invariant
    c.in_ok-own.own (sym c.is_some.ensures ∙ c.if-is_some.true) c.in_ok-own.ensures

pub loop-comment-preserved : goal.loop-comment-preserved
loop-comment-preserved c =
    let text = c.args.text.now in let l = c.loop-comment in
    let none = none_so text c.args.comments.now l.comment-index _ c.loop-comment-test.true (ShowsInDiagram text)
    c.in_ok-own.own (sym c.is_some.ensures ∙ c.if-is_some.false) c.in_ok-own.ensures in
    sym (said_later text c.args.comments.now l.comment-index _ c.loop-comment-test.true none) ∙ l.invariant

pub returns : goal.returns
returns c =
    let l = c.loop-comment in
    sym (said_at_end c.args.text.now c.args.comments.now l.comment-index c.loop-comment-test.false) ∙ l.invariant

use Rattle.std.proofs.Common.{Bool, cond, ap, sym, ◌∙◌}
use Rattle.msc_links.specs.Comments.{chart_reading_of, own_text, says, unreadable, without_serving}
use Rattle.msc_links.proofs.comment.own_queues_of_chart.Goals as goal

pub returns-in-Ok-None : goal.returns-in-Ok-None
unfolding chart_reading_of
returns-in-Ok-None c =
    ap (without_serving c.args.comment.now) (rw c.in-Ok-None.field-0-is at c.in-Ok-None.ensures)

pub returns-in-Err : goal.returns-in-Err
unfolding chart_reading_of
returns-in-Err c expected = ap (without_serving c.args.comment.now) (c.in-Err.ensures expected)

pub returns-then-branch : goal.returns-then-branch
unfolding chart_reading_of
returns-then-branch c expected =
    let comment = c.args.comment.now in
    let is = rw c.in-Ok-Some.field-0-is at c.in-Ok-Some.ensures in
    sym (ap (without_serving comment) is)
    ∙ ap (λ (b : Bool). cond b unreadable (says (own_text c.in-Ok-Some.own))) (sym c.in_ok-has_serving.ensures ∙ c.if-branch.true)

pub returns : goal.returns
unfolding chart_reading_of
returns c =
    let comment = c.args.comment.now in
    let is = rw c.in-Ok-Some.field-0-is at c.in-Ok-Some.ensures in
    sym (ap (λ (b : Bool). cond b unreadable (says (own_text c.in-Ok-Some.own))) (sym c.in_ok-has_serving.ensures ∙ c.if-branch.false))
    ∙ ap (without_serving comment) is

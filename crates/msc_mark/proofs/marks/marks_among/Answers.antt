use Rattle.std.proofs.Common.{◌+◌, ◌-◌, ◌++◌, length, take, drop, sym, ap, ◌∙◌}
use Rattle.std.proofs.lemmas.List.{take_rest}
use Rattle.std.proofs.lemmas.Result.{err_from_is_err_and}
use Rattle.msc_lexer.specs.Lexemes.{lexemes}
use Rattle.msc_mark.specs.Comments.{comment_in, fault_in, listed, mark_in}
use Rattle.msc_mark.proofs.Steps.{reads_one, reads_none, reads_fault, reads_marks, reads_faultless, refused_comment}
use Rattle.msc_mark.proofs.marks.marks_among.Goals as goal
use Rattle.msc_mark.proofs.marks.marks_among.Goals.{then-begins_event+in_ok-push_comment, else-begins_event}

pub returns-in_err-push_comment-clause-fault : goal.returns-in_err-push_comment-clause-fault
returns-in_err-push_comment-clause-fault c =
    let text = c.args.text.now in let ts = c.args.tokens.now in let i = c.loop-i.i in
    let f = c.in_err-push_comment.field-0.0 in
    let p = err_from_is_err_and c.from_residual.result c.from_residual.ensures.1 in
    let same = ap (λ us. fault_in (comment_in (lexemes text us))) (take_rest ts (i + 1)) in
    rw (p.1, p.2) (λ other. reads_fault text ts i c.loop-i.event c.loop-i.list.items c.loop-i.invariant c.loop-i-test.true f (sym (c.begins_event.ensures text) ∙ c.if-begins_event.true) (sym same ∙ refused_comment c.loop-i.event (comment_in (lexemes text (take (length ts - (i + 1)) (drop (i + 1) ts)))) c.loop-i.list.items c.push_comment.new.list.items f c.in_err-push_comment.ensures other))

pub loop-i-preserved : goal.loop-i-preserved
loop-i-preserved c =
    let text = c.args.text.now in let ts = c.args.tokens.now in let i = c.loop-i.i in
    let event = c.loop-i.event in let list = c.loop-i.list.items in
    let is = sym (c.begins_event.ensures text) in
    let same = ap (λ us. comment_in (lexemes text us)) (take_rest ts (i + 1)) in
    elim c.if-begins_event.branch [
      | then-begins_event+in_ok-push_comment w ↦
          let h = w.in_ok-push_comment.ensures in
          let good = sym (ap fault_in same) ∙ h.1 in
          let more = ap (λ v. v.items) w.list-is ∙ h.0 ∙ ap (λ m. list ++ listed (mark_in event m)) same in
          rw (more, w.event-is) (reads_one text ts i event list c.loop-i.invariant c.loop-i-test.true (is ∙ w.if-begins_event.true) good)
      | else-begins_event w ↦
          rw (w.list-is, w.event-is) (reads_none text ts i event list c.loop-i.invariant c.loop-i-test.true (is ∙ w.if-begins_event.false))
    ]

pub returns-clause-marks : goal.returns-clause-marks
returns-clause-marks c =
    reads_marks c.args.text.now c.args.tokens.now c.loop-i.i c.loop-i.event c.loop-i.list.items c.loop-i.invariant c.loop-i-test.false

pub returns-clause-faultless : goal.returns-clause-faultless
returns-clause-faultless c =
    reads_faultless c.args.text.now c.args.tokens.now c.loop-i.i c.loop-i.event c.loop-i.list.items c.loop-i.invariant c.loop-i-test.false

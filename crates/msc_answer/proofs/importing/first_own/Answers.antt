use Rattle.std.proofs.Common.{ap, drop, sym, ◌∙◌}
use Rattle.msc_links.specs.Comments.{reading_of}
use Rattle.msc_answer.proofs.FirstReadings.{none_at_end, reading_later, says_here, unreadable_here}
use Rattle.msc_answer.proofs.importing.first_own.Goals as goal

pub returns-in-Ok-Some : goal.returns-in-Ok-Some
returns-in-Ok-Some c =
    let l = c.loop-comment in
    let line = ap reading_of (c.after_signs.ensures ∙ ap (drop 2) c.bytes_at.ensures) in
    let found = rw c.in-Ok-Some.field-0-is at c.in-Ok-Some.ensures in
    says_here c.args.text.now c.args.comments.now l.comment-index _ c.loop-comment-test.true l.invariant c.in-Ok-Some.own
    (found ∙ line)

pub returns-in-Err-Expected : goal.returns-in-Err-Expected
returns-in-Err-Expected c =
    let l = c.loop-comment in
    let line = ap reading_of (c.after_signs.ensures ∙ ap (drop 2) c.bytes_at.ensures) in
    unreadable_here c.args.text.now c.args.comments.now l.comment-index _ c.loop-comment-test.true l.invariant
    (sym (c.in-Err-Expected.ensures c.in-Err-Expected.field-0-is) ∙ line)

pub loop-comment-preserved : goal.loop-comment-preserved
loop-comment-preserved c =
    let l = c.loop-comment in
    let line = ap reading_of (c.after_signs.ensures ∙ ap (drop 2) c.bytes_at.ensures) in
    let nothing = rw c.in-Ok-None.field-0-is at c.in-Ok-None.ensures in
    sym (reading_later c.args.text.now c.args.comments.now l.comment-index _ c.loop-comment-test.true (nothing ∙ line)) ∙ l.invariant

pub returns : goal.returns
returns c =
    let l = c.loop-comment in
    none_at_end c.args.text.now c.args.comments.now l.comment-index c.loop-comment-test.false l.invariant

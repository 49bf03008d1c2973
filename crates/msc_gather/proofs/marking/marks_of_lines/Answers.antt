use Rattle.std.proofs.Common.{inl, inr, ◌∙◌, arith}
use Rattle.std.proofs.lemmas.Bool.{cases_eq}
use Rattle.std.proofs.lemmas.List.{with_items_is}
use Rattle.msc_gather.proofs.MarkLemmas.{marks_more}
use Rattle.msc_gather.proofs.marking.marks_of_lines.Goals as goal

pub loop-i-preserved : goal.loop-i-preserved
loop-i-preserved c =
    let same = with_items_is c.loop-i.marks c.mark_log.new.marks
    (c.mark_log.auto.marks ∙ c.deref_mut.ensures.len) in
    let log = rw c.log_at.ensures at (c.mark_log.ensures.told.0 c.if-not-mark_log.false) in
    let beside = rw (c.log_at.ensures, c.deref_mut.ensures.value) at
    (c.mark_log.ensures.marked c.if-not-mark_log.false) in
    record {
      logs = λ i below. elim (cases_eq i c.loop-i.i) [
        | inl here ↦ rw here log
        | inr other ↦ c.loop-i.invariant.logs i (omega (arith, below, other))
      ];
      marks = rw same (marks_more c.loop-i.invariant.marks log beside);
    }

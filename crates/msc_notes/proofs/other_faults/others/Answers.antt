use Rattle.std.proofs.Common.{refl, sym, ap, ◌∙◌}
use Rattle.std.proofs.lemmas.Bool.{not-true}
use Rattle.msc_notes.proofs.Parts.{left_at, part_begun, taken_at}
use Rattle.msc_notes.proofs.other_faults.others.Goals as goal
use Rattle.msc_notes.proofs.other_faults.others.Goals.{then-is_news+then-ne+in_ok-push, else-is_news}

pub loop-fault-init : goal.loop-fault-init
loop-fault-init c = part_begun c.args.first c.args.all.now _ c.new-further.ensures.items

pub loop-fault-preserved : goal.loop-fault-preserved
loop-fault-preserved c =
    let first = c.args.first in let all = c.args.all.now in let i = c.loop-fault.fault-index in
    let part = c.loop-fault.further.items in let new = c.if-is_news.further.items in
    elim c.if-is_news.branch [
      | then-is_news+then-ne+in_ok-push w ↦
          taken_at first all part new i c.loop-fault-test.true c.loop-fault.invariant _ _
          (ap (λ v. v.items) w.further-is ∙ w.in_ok-push.ensures.items) refl (not-true _ (sym w.ne.ensures ∙ w.if-ne.true))
      | else-is_news w ↦
          left_at first all part new i c.loop-fault-test.true c.loop-fault.invariant (ap (λ v. v.items) w.further-is)
    ]

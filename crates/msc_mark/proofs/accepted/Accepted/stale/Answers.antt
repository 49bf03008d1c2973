use Rattle.std.proofs.Common.{◌&&◌, not, false, get_or, sym, ap, ◌∙◌}
use Rattle.std.specs.Prelude.{is_some}
use Rattle.msc_race.specs.Views.{races_of}
use Rattle.msc_mark.specs.Accepting.{mark_for}
use Rattle.msc_mark.proofs.Noting.{stale_kept, stale_passed}
use Rattle.msc_mark.proofs.accepted.Accepted.stale.Goals as goal
use Rattle.msc_mark.proofs.accepted.Accepted.stale.Goals.{then-is_left+in_ok-push, else-is_left}

pub loop-e-preserved : goal.loop-e-preserved
loop-e-preserved c =
    let a = c.args.self.now in let races = races_of c.args.enforced.now in let e = c.loop-e.e in
    let noted = ap (λ l. get_or l e false) c.as_slice.ensures.value ∙ c.in_ok-fitting.ensures.noted e in
    let is = sym (ap (λ b. is_some (mark_for a.marks a.queues e) && not b) noted) ∙ sym c.is_left.ensures in
    elim c.if-is_left.branch [
      | then-is_left+in_ok-push w ↦
          ap (λ v. v.items) w.list-is ∙ w.in_ok-push.ensures.items
          ∙ stale_kept a races e c.loop-e.list.items c.loop-e.invariant (is ∙ w.if-is_left.true)
      | else-is_left w ↦ ap (λ v. v.items) w.list-is ∙ stale_passed a races e c.loop-e.list.items c.loop-e.invariant (is ∙ w.if-is_left.false)
    ]

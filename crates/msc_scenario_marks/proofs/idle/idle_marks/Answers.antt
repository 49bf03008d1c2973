use Rattle.std.proofs.Common.{sym, ap, ◌∙◌}
use Rattle.msc_scenario_marks.specs.Idle.{may_be_idle}
use Rattle.msc_scenario_marks.proofs.Listing.{one_kept, one_passed}
use Rattle.msc_scenario_marks.proofs.idle.idle_marks.Goals as goal
use Rattle.msc_scenario_marks.proofs.idle.idle_marks.Goals.{then-may_be_idle+in_ok-push, else-may_be_idle}

pub loop-k-preserved : goal.loop-k-preserved
loop-k-preserved c =
    let test = may_be_idle c.args.accepted.now in let k = c.loop-k.k in
    elim c.if-may_be_idle.branch [
      | then-may_be_idle+in_ok-push w ↦
          ap (λ v. v.items) w.idle-is ∙ w.in_ok-push.ensures.items
          ∙ one_kept test k c.loop-k.idle.items c.loop-k.invariant (sym c.may_be_idle.ensures ∙ w.if-may_be_idle.true)
      | else-may_be_idle w ↦
          ap (λ v. v.items) w.idle-is ∙ one_passed test k c.loop-k.idle.items c.loop-k.invariant (sym c.may_be_idle.ensures ∙ w.if-may_be_idle.false)
    ]

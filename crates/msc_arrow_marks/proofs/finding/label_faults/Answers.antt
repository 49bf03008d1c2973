use Rattle.std.proofs.Common.{◌+◌, ◌++◌, drop, refl, ap, sym, ◌∙◌}
use Rattle.msc_arrow_marks.specs.Marks.{label_faults}
use Rattle.msc_arrow_marks.proofs.FaultLemmas.{fault_more, fault_none, fault_over}
use Rattle.msc_arrow_marks.proofs.finding.label_faults.Goals as goal
use Rattle.msc_arrow_marks.proofs.finding.label_faults.Goals.{then-branch+in_ok-push, else-branch}

pub loop-placed-init : goal.loop-placed-init
loop-placed-init c = refl

pub loop-placed-preserved : goal.loop-placed-preserved
loop-placed-preserved c =
    let l = c.loop-placed in let statements = c.args.statements.now in
    let rest = label_faults (drop (l.placed-index + 1) statements) in
    let placed = c.placed-item.result in
    elim c.if-branch.branch [
      | then-branch+in_ok-push w ↦
          ap (λ v. v.items ++ rest) w.faults-is ∙ ap (λ v. v ++ rest) w.in_ok-push.ensures.items
          ∙ fault_more l.faults.items statements l.placed-index placed c.loop-placed-test.true c.placed-item.is (sym c.in_ok-is_label_marked.ensures ∙ w.if-branch.true) ∙ l.invariant
      | else-branch w ↦
          ap (λ v. v.items ++ rest) w.faults-is
          ∙ fault_none l.faults.items statements l.placed-index placed c.loop-placed-test.true c.placed-item.is (sym c.in_ok-is_label_marked.ensures ∙ w.if-branch.false) ∙ l.invariant
    ]

pub returns : goal.returns
returns c =
    let l = c.loop-placed in
    sym (fault_over l.faults.items c.args.statements.now l.placed-index c.loop-placed-test.false) ∙ l.invariant

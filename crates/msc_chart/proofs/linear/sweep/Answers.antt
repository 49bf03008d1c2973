use Rattle.std.proofs.Common.{◌<◌, ◌+◌, sym, ◌∙◌, arith}
use Rattle.std.proofs.lemmas.Bool.{OnTrue_at, OnTrue_from, OnFalse_at, OnFalse_from}
use Rattle.msc_chart.specs.Sortings.{IsStuckBelow}
use Rattle.msc_chart.proofs.ListLemmas.{clash}
use Rattle.msc_chart.proofs.StuckLemmas.{stuck-next}
use Rattle.msc_chart.proofs.linear.sweep.Goals as goal
use Rattle.msc_chart.proofs.linear.sweep.Goals.{then-branch, else-branch}

pub loop-e-preserved : goal.loop-e-preserved
loop-e-preserved c = record {
  sorting = c.in_ok-put.ensures.sorting;
  put = elim c.if-branch.branch [
    | then-branch w ↦ OnTrue_from c.if-branch.changed (c.put.new.sorting.left < c.args.sorting.now.left) (λ _. let s = OnTrue_at w.if-branch.true c.in_ok-put.ensures.put in omega (arith, s, c.loop-e.invariant.left))
    | else-branch w ↦ OnTrue_from c.if-branch.changed (c.put.new.sorting.left < c.args.sorting.now.left) (λ h. let s = OnFalse_at w.if-branch.false c.in_ok-put.ensures.same in let l = OnTrue_at (sym w.changed-is ∙ h) c.loop-e.invariant.put in omega (arith, s, l))
  ];
  left = elim c.if-branch.branch [
    | then-branch w ↦ let s = OnTrue_at w.if-branch.true c.in_ok-put.ensures.put in omega (arith, s, c.loop-e.invariant.left)
    | else-branch w ↦ let s = OnFalse_at w.if-branch.false c.in_ok-put.ensures.same in omega (arith, s, c.loop-e.invariant.left)
  ];
  stuck = elim c.if-branch.branch [
    | then-branch w ↦ OnFalse_from c.if-branch.changed (IsStuckBelow c.args.events.now c.put.new.sorting.is_put.items (c.loop-e.e + 1)) (λ h. clash w.changed-is h)
    | else-branch w ↦ OnFalse_from c.if-branch.changed (IsStuckBelow c.args.events.now c.put.new.sorting.is_put.items (c.loop-e.e + 1)) (λ h.
        stuck-next c.args.events.now _ _ c.loop-e.e (OnFalse_at w.if-branch.false c.in_ok-put.ensures.marks) (OnFalse_at (sym w.changed-is ∙ h) c.loop-e.invariant.stuck) (OnFalse_at w.if-branch.false c.in_ok-put.ensures.stuck))
  ];
}

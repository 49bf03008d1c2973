use Rattle.std.proofs.Common.{ℕ, ◌+◌, get_or, sym, ap, ◌∙◌}
use Rattle.msc_picture.proofs.Ranges.{fold_next}
use Rattle.msc_picture.proofs.columns.added_up.Goals as goal

pub loop-k-preserved : goal.loop-k-preserved
loop-k-preserved c =
    fold_next (λ total k. total + get_or c.args.gaps.now k 0) 0 c.args.start c.loop-k.k c.in_ok-at.at
    c.loop-k.total c.in_ok-next.next (sym c.in_ok-at.ensures) c.loop-k.invariant
    (c.in_ok-next.ensures ∙ ap (λ (g : ℕ). c.loop-k.total + g) c.gap_at.ensures)

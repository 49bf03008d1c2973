use Rattle.std.proofs.Common.{ℕ, ◌+◌, ap, ◌∙◌}
use Rattle.msc_picture.proofs.Ranges.{map_next}
use Rattle.msc_picture.specs.Columns.{column_after}
use Rattle.msc_picture.proofs.columns.columns_after.Goals as goal

pub loop-i-preserved : goal.loop-i-preserved
loop-i-preserved c =
    map_next (column_after c.args.first c.args.gaps.now) c.loop-i.i _ _ _ c.loop-i.invariant
    (c.in_ok-column.ensures ∙ ap (λ (t : ℕ). c.args.first + t) c.in_ok-behind.ensures)
    c.in_ok-push.ensures.items

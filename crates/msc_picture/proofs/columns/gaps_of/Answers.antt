use Rattle.msc_picture.specs.declared.scene.Arrow.{Arrow}
use Rattle.std.proofs.Common.{List, ◌+◌, ap, ◌∙◌, arith}
use Rattle.msc_picture.proofs.Ranges.{fold_next}
use Rattle.msc_picture.specs.Columns.{first_gap, widened_by}
use Rattle.std.proofs.Common.{map}
use Rattle.std.specs.List.{range_with_len}
use Rattle.msc_picture.proofs.columns.gaps_of.Goals as goal

pub loop-k-preserved : goal.loop-k-preserved
loop-k-preserved c =
    fold_next (widened_by c.args.scene.now.arrows)
    (map (first_gap c.args.scene.now) (range_with_len 0 c.args.many)) 1 c.loop-k.k (c.loop-k.k + 1)
    _ _ (omega arith) c.loop-k.invariant
    (c.in_ok-widen_by.ensures
    ∙ ap (λ (arrows : List Arrow). widened_by arrows c.loop-k.gaps.items (c.loop-k.k + 1))
    c.as_slice.ensures)

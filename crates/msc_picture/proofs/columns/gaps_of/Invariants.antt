use Rattle.std.proofs.Common.{◌≡◌, map, fold}
use Rattle.std.specs.List.{range_with_len}
use Rattle.msc_picture.specs.Columns.{first_gap, widened_by}
use Rattle.msc_picture.proofs.columns.gaps_of.Given as goal

abbrev pub invariant-loop-k : goal.invariant-loop-k
invariant-loop-k l =
    l.gaps.items
    ≡ fold (widened_by l.scene.arrows) (map (first_gap l.scene) (range_with_len 0 l.many))
    (range_with_len 1 l.k)

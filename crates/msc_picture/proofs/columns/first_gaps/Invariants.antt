use Rattle.std.proofs.Common.{◌≡◌, map}
use Rattle.std.specs.List.{range_with_len}
use Rattle.msc_picture.specs.Columns.{first_gap}
use Rattle.msc_picture.proofs.columns.first_gaps.Given as goal

abbrev pub invariant-loop-i : goal.invariant-loop-i
invariant-loop-i l =
    l.gaps.items ≡ map (first_gap l.scene) (range_with_len 0 l.i)

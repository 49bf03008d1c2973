use Rattle.std.proofs.Common.{◌≡◌, map}
use Rattle.std.specs.List.{range_with_len}
use Rattle.msc_picture.specs.Columns.{column_after}
use Rattle.msc_picture.proofs.columns.columns_after.Given as goal

abbrev pub invariant-loop-i : goal.invariant-loop-i
invariant-loop-i l =
    l.columns.items ≡ map (column_after l.first l.gaps) (range_with_len 0 l.i)

use Rattle.std.proofs.Common.{◌≡◌, take}
use Rattle.msc_picture.specs.Columns.{widened_by}
use Rattle.msc_picture.proofs.columns.widen_by.Given as goal

abbrev pub invariant-loop-arrow : goal.invariant-loop-arrow
invariant-loop-arrow l =
    l.gaps.items ≡ widened_by (take l.arrow-index l.arrows) l.initial.gaps.items l.many

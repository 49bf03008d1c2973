use Rattle.std.proofs.Common.{◌≡◌}
use Rattle.msc_picture.specs.Columns.{added_up}
use Rattle.msc_picture.proofs.columns.added_up.Given as goal

abbrev pub invariant-loop-k : goal.invariant-loop-k
invariant-loop-k l =
    l.total ≡ added_up l.gaps l.start l.k

use Rattle.std.proofs.Common.{◌≡◌, map}
use Rattle.std.specs.List.{range_with_len}
use Rattle.msc_svg.specs.Layouts.{gap}
use Rattle.msc_svg.proofs.measure.gaps_of.Given as goal

abbrev pub invariant-loop-i : goal.invariant-loop-i
invariant-loop-i l =
    l.gaps.items ≡ map (gap l.scene l.depths) (range_with_len 0 l.i)

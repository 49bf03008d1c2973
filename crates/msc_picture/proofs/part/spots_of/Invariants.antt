use Rattle.std.proofs.Common.{◌≡◌, map}
use Rattle.std.specs.List.{range_with_len}
use Rattle.msc_picture.specs.Scenes.{spot_of}
use Rattle.msc_picture.proofs.part.spots_of.Given as goal

abbrev pub invariant-loop-e : goal.invariant-loop-e
invariant-loop-e l =
    l.spots.items ≡ map (spot_of l.chart) (range_with_len 0 l.e)

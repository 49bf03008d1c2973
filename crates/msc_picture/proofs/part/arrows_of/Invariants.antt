use Rattle.std.proofs.Common.{◌≡◌, map}
use Rattle.std.specs.List.{range_with_len}
use Rattle.msc_picture.specs.Scenes.{arrow_of}
use Rattle.msc_picture.proofs.part.arrows_of.Given as goal

abbrev pub invariant-loop-m : goal.invariant-loop-m
invariant-loop-m l =
    l.arrows.items ≡ map (arrow_of l.chart) (range_with_len 0 l.m)

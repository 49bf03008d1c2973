use Rattle.std.proofs.Common.{◌≡◌, map}
use Rattle.std.specs.List.{range_with_len}
use Rattle.msc_chart.specs.Charts.{segment}
use Rattle.msc_picture.proofs.frame.segments_of.Given as goal

abbrev pub invariant-loop-e : goal.invariant-loop-e
invariant-loop-e l = l.levels.items ≡ map (segment l.chart.events) (range_with_len 0 l.e)

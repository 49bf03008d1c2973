use Rattle.std.proofs.Common.{◌≡◌, map, take}
use Rattle.msc_svg.specs.Layouts.{row_height}
use Rattle.msc_svg.proofs.layout.row_heights.Given as goal

abbrev pub invariant-loop-row : goal.invariant-loop-row
invariant-loop-row l =
    l.heights.items ≡ map (row_height l.scene l.numbers) (take l.row-index l.rows)

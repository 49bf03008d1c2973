use Rattle.std.proofs.Common.{◌≡◌, [], fold, length, take}
use Rattle.std.specs.Prelude.{replicate}
use Rattle.msc_svg.specs.Depths.{walked}
use Rattle.msc_svg.proofs.depth.depths_of.Given as goal

abbrev pub invariant-loop-e : goal.invariant-loop-e
invariant-loop-e l =
    (l.table.items, l.under.items)
    ≡ fold (walked l.scene) (replicate (length l.scene.spots) 0, []) (take l.e-index l.e-items)

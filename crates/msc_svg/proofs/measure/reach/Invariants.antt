use Rattle.std.proofs.Common.{◌≡◌, fold, max, take}
use Rattle.msc_svg.specs.Layouts.{spot_reach}
use Rattle.msc_svg.proofs.measure.reach.Given as goal

abbrev pub invariant-loop-spot : goal.invariant-loop-spot
invariant-loop-spot l =
    l.most ≡ fold (λ most spot. max most (spot_reach l.i spot)) 0 (take l.spot-index l.spots)

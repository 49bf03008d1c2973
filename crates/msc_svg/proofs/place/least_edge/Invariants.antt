use Rattle.std.proofs.Common.{◌≡◌, fold, min, take}
use Rattle.msc_svg.specs.Layouts.{at}
use Rattle.msc_svg.specs.Places.{edge}
use Rattle.msc_svg.proofs.place.least_edge.Given as goal

abbrev pub invariant-loop-e : goal.invariant-loop-e
invariant-loop-e l =
    l.least ≡ fold (λ least e. min least (edge l.layout (at l.layout.rows e))) l.layout.foot (take l.e-index l.events)

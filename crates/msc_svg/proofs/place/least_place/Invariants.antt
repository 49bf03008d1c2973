use Rattle.std.proofs.Common.{◌≡◌, fold, min, take}
use Rattle.msc_svg.specs.Places.{place}
use Rattle.msc_svg.proofs.place.least_place.Given as goal

abbrev pub invariant-loop-e : goal.invariant-loop-e
invariant-loop-e l =
    l.least ≡ fold (λ least e. min least (place l.scene l.layout e)) l.start (take l.e-index l.events)

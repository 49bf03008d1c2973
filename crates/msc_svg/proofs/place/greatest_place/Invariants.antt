use Rattle.std.proofs.Common.{◌≡◌, fold, max, take}
use Rattle.msc_svg.specs.Places.{place}
use Rattle.msc_svg.proofs.place.greatest_place.Given as goal

abbrev pub invariant-loop-e : goal.invariant-loop-e
invariant-loop-e l =
    l.most ≡ fold (λ most e. max most (place l.scene l.layout e)) l.start (take l.e-index l.events)

use Rattle.std.proofs.Common.{◌≡◌, fold, max, take}
use Rattle.msc_svg.specs.Layouts.{label_room}
use Rattle.msc_svg.proofs.measure.label_rooms.Given as goal

abbrev pub invariant-loop-arrow : goal.invariant-loop-arrow
invariant-loop-arrow l =
    l.most ≡ fold (λ most a. max most (label_room l.i a)) 0 (take l.arrow-index l.arrows)

use Rattle.std.proofs.Common.{◌≡◌, take, fold, max}
use Rattle.msc_picture.specs.Columns.{arrow_room, spot_room}
use Rattle.msc_picture.proofs.columns.room.Given as goal

abbrev pub invariant-loop-spot : goal.invariant-loop-spot
invariant-loop-spot l =
    l.most
    ≡ fold (λ most x. max most (spot_room l.i x))
    (fold (λ most a. max most (arrow_room l.i a)) 0 l.scene.arrows) (take l.spot-index l.spots)

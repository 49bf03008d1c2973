use Rattle.std.proofs.Common.{◌≡◌, take, fold, max}
use Rattle.msc_picture.specs.Columns.{arrow_room}
use Rattle.msc_picture.proofs.columns.room_of_arrows.Given as goal

abbrev pub invariant-loop-arrow : goal.invariant-loop-arrow
invariant-loop-arrow l =
    l.most ≡ fold (λ most a. max most (arrow_room l.i a)) 0 (take l.arrow-index l.arrows)

use Rattle.std.proofs.Common.{◌≡◌, fold, max, take}
use Rattle.msc_svg.specs.Layouts.{head_room}
use Rattle.msc_svg.proofs.layout.head_height.Given as goal

abbrev pub invariant-loop-head : goal.invariant-loop-head
invariant-loop-head l =
    l.most ≡ fold (λ most h. max most (head_room h)) 26 (take l.head-index l.heads)

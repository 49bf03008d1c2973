use Rattle.std.proofs.Common.{◌≡◌, fold, length, max, take}
use Rattle.msc_svg.proofs.action.longest.Given as goal

abbrev pub invariant-loop-line : goal.invariant-loop-line
invariant-loop-line l =
    l.most ≡ fold (λ most line. max most (length line)) 0 (take l.line-index l.lines)

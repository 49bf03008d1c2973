use Rattle.std.proofs.Common.{◌≡◌, fold, max, take}
use Rattle.msc_svg.specs.Depths.{past_depth}
use Rattle.msc_svg.proofs.depth.next_depth.Given as goal

abbrev pub invariant-loop-u : goal.invariant-loop-u
invariant-loop-u l =
    l.most ≡ fold (λ most u. max most (past_depth l.instance u)) 0 (take l.u-index l.under)

use Rattle.std.proofs.Common.{◌≡◌, ◌+◌, ◌*◌, fold, length, max, take}
use Rattle.msc_svg.proofs.layout.heading_width.Given as goal

abbrev pub invariant-loop-text : goal.invariant-loop-text
invariant-loop-text l =
    l.most ≡ fold (λ most text. max most (8 * length text + 32)) 64 (take l.text-index l.heading)

use Rattle.std.proofs.Common.{◌≡◌, [], fold, take}
use Rattle.msc_svg.specs.Actions.{with_part}
use Rattle.msc_svg.proofs.action.filled.Given as goal

abbrev pub invariant-loop-part : goal.invariant-loop-part
invariant-loop-part l =
    (l.lines.items, l.line.items) ≡ fold with_part ([], []) (take l.part-index l.part-items)

use Rattle.std.proofs.Common.{◌≡◌, ◌++◌, drop, map, take}
use Rattle.msc_draw.specs.Numbering.{later_bar}
use Rattle.msc_draw.proofs.numbering.number_all.Given as goal

-- the bars so far have their later numbers
abbrev pub invariant-loop-i : goal.invariant-loop-i
invariant-loop-i l =
    l.bars.items ≡ map (later_bar l.first) (take l.i l.fn.bars.items) ++ drop l.i l.fn.bars.items

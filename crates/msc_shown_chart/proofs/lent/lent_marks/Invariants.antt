use Rattle.std.proofs.Common.{◌≡◌, map, take}
use Rattle.msc_shown_chart.specs.Marks.{plain_mark, plain_shown}
use Rattle.msc_shown_chart.proofs.lent.lent_marks.Given as goal

abbrev pub invariant-loop-mark : goal.invariant-loop-mark
invariant-loop-mark l = map plain_shown l.lent.items ≡ map plain_mark (take l.mark-index l.marks)

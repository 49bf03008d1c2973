use Rattle.std.proofs.Common.{map, take}
use Rattle.msc_shown_chart.specs.Marks.{plain_mark, AreMarkWords}
use Rattle.msc_shown_chart.proofs.marks.all_words.Given as goal

abbrev pub invariant-loop-mark : goal.invariant-loop-mark
invariant-loop-mark l = AreMarkWords l.file l.lines (take l.mark-index l.marks) (map plain_mark l.all.items)

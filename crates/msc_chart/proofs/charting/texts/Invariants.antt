use Rattle.std.proofs.Common.{◌≡◌, ◌++◌, map, drop}
use Rattle.msc_chart.specs.Drawings.{texts_of}
use Rattle.msc_chart.specs.Views.{mark_view}
use Rattle.msc_chart.proofs.charting.texts.Given as goal

abbrev pub invariant-loop-mark : goal.invariant-loop-mark
invariant-loop-mark l = l.texts.items ++ texts_of (map mark_view (drop l.mark-index l.marks)) ≡ texts_of (map mark_view l.marks)

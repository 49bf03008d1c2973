use Rattle.std.proofs.Common.{◌≡◌, ◌++◌, map, drop}
use Rattle.msc_chart.specs.Drawings.{messages_from}
use Rattle.msc_chart.specs.Views.{mark_view}
use Rattle.msc_chart.proofs.charting.messages.Given as goal

abbrev pub invariant-loop-e : goal.invariant-loop-e
invariant-loop-e l = l.messages.items ++ messages_from l.e (map mark_view (drop l.e l.marks)) ≡ messages_from 0 (map mark_view l.marks)

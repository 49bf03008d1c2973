use Rattle.std.proofs.Common.{◌≡◌, ◌≤◌, ◌++◌, map, drop}
use Rattle.msc_chart.specs.Tables.{numbers_from, numbers_of}
use Rattle.msc_chart.specs.Views.{mark_view}
use Rattle.msc_chart.proofs.charting.numbers.Given as goal

abbrev pub invariant-loop-mark : goal.invariant-loop-mark
invariant-loop-mark l = record {
  told : l.numbers.items ++ numbers_from l.outputs l.actions (map mark_view (drop l.mark-index l.marks))
      ≡ numbers_of (map mark_view l.marks);
  outputs : l.outputs ≤ l.mark-index;
  actions : l.actions ≤ l.mark-index;
}

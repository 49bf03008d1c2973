use Rattle.std.proofs.Common.{◌≡◌, ◌++◌, map, drop}
use Rattle.msc_chart.specs.Tables.{partners_from}
use Rattle.msc_chart.specs.Views.{mark_view}
use Rattle.msc_chart.proofs.charting.partners.Given as goal

abbrev pub invariant-loop-e : goal.invariant-loop-e
invariant-loop-e l =
    l.partners.items ++ partners_from (map mark_view l.places.keys) l.e (map mark_view (drop l.e l.marks))
    ≡ partners_from (map mark_view l.places.keys) 0 (map mark_view l.marks)

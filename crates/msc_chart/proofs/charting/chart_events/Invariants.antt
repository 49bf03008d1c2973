use Rattle.std.proofs.Common.{◌≡◌, ◌++◌, map, drop}
use Rattle.msc_chart.specs.Drawings.{events_from}
use Rattle.msc_chart.specs.Views.{event_view, mark_view}
use Rattle.msc_chart.proofs.charting.chart_events.Given as goal

abbrev pub invariant-loop-e : goal.invariant-loop-e
invariant-loop-e l =
    l.chart.items ++ events_from (map mark_view l.places.keys) l.e (map event_view (drop l.e l.events))
    ≡ events_from (map mark_view l.places.keys) 0 (map event_view l.events)

use Rattle.std.proofs.Common.{◌≡◌, ◌+◌, ◌≤◌, ◌++◌, map, drop, length}
use Rattle.msc_chart.specs.Events.{events_of_items}
use Rattle.msc_chart.specs.Views.{event_view}
use Rattle.msc_chart.proofs.end.push_section.Given as goal

abbrev pub invariant-loop-item : goal.invariant-loop-item
invariant-loop-item l = record {
  pushed : map event_view l.events.items ++ events_of_items l.line l.own l.segment (drop l.item-index l.item-items)
      ≡ map event_view l.initial.events.items ++ events_of_items l.line l.own 0 l.item-items;
  room : length l.initial.events.items + l.segment ≤ length l.events.items;
}

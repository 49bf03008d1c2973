use Rattle.std.proofs.Common.{◌≡◌, ◌++◌, map, drop}
use Rattle.msc_chart.specs.Events.{events_of_sections}
use Rattle.msc_chart.specs.Views.{event_view}
use Rattle.msc_chart.proofs.end.events_of.Given as goal

abbrev pub invariant-loop-section : goal.invariant-loop-section
invariant-loop-section l = record {
  pushed : map event_view l.events.items ++ events_of_sections l.line (drop l.section-index l.section-items)
      ≡ events_of_sections 0 l.section-items;
  line : l.line ≡ l.section-index;
}

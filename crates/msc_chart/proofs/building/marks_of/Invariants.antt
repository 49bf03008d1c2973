use Rattle.std.proofs.Common.{◌≡◌, ◌++◌, drop, length}
use Rattle.msc_chart.specs.Views.{marks_from}
use Rattle.msc_chart.proofs.building.marks_of.Given as goal

abbrev pub invariant-loop-e : goal.invariant-loop-e
invariant-loop-e l = record {
  made : l.marks.items ++ marks_from l.e (drop l.e l.events) ≡ marks_from 0 l.events;
  each : length l.marks.items ≡ l.e;
}

use Rattle.std.proofs.Common.{◌≡◌, ◌++◌, map}
use Rattle.msc_answer.specs.Charting.{with_chart}
use Rattle.msc_answer.proofs.scenarios.each_charted.Given as goal

-- the drawings so far have their charts
abbrev pub invariant-loop-drawn : goal.invariant-loop-drawn
invariant-loop-drawn l = record {
  whole : l.initial.drawn-iterator.rest.items ≡ l.yielded ++ l.drawn-iterator.rest.items;
  made : l.charts.items ≡ map (with_chart l.file) l.yielded;
}

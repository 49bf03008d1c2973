use Rattle.std.proofs.Common.{◌≡◌, map}
use Rattle.std.specs.List.{range_with_len}
use Rattle.msc_chart.specs.Spans.{span_at}
use Rattle.msc_chart.proofs.rounds.spans.Given as goal

abbrev pub invariant-loop-i : goal.invariant-loop-i
invariant-loop-i l = l.spans.items ≡ map (span_at l.chart.events) (range_with_len 0 l.i)

use Rattle.std.proofs.Common.{◌≡◌, length, map}
use Rattle.std.specs.List.{range_with_len}
use Rattle.msc_chart.specs.Rounds.{count_below, repeated_event}
use Rattle.msc_chart.proofs.rounds.Rounds.events.Given as goal

abbrev pub invariant-loop-k : goal.invariant-loop-k
invariant-loop-k l = record {
  made : l.events.items ≡ map (repeated_event 2 (length l.self.chart.now.messages) l.self.chart.now.events) (range_with_len 0 l.k);
  counted : l.locals ≡ count_below 2 l.self.chart.now.events l.k;
}

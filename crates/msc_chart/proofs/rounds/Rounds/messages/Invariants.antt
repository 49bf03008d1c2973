use Rattle.std.proofs.Common.{◌≡◌, map}
use Rattle.std.specs.List.{range_with_len}
use Rattle.msc_chart.specs.Rounds.{repeated_message}
use Rattle.msc_chart.proofs.rounds.Rounds.messages.Given as goal

abbrev pub invariant-loop-m : goal.invariant-loop-m
invariant-loop-m l = l.messages.items ≡ map (repeated_message 2 l.self.chart.now) (range_with_len 0 l.m)

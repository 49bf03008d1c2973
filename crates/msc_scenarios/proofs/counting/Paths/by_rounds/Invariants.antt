use Rattle.std.proofs.Common.{◌≡◌, drop}
use Rattle.msc_scenarios.specs.Counting.{by_rounds}
use Rattle.msc_scenarios.proofs.counting.Paths.by_rounds.Given as goal

abbrev pub invariant-loop-count : goal.invariant-loop-count
invariant-loop-count l = by_rounds l.self (drop l.count-index l.rounds) l.number ≡ by_rounds l.self l.rounds 0

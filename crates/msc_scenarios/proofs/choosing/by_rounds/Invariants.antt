use Rattle.std.proofs.Common.{◌≡◌, ◌++◌, drop}
use Rattle.msc_scenarios.specs.Choosing.{by_rounds}
use Rattle.msc_scenarios.proofs.choosing.by_rounds.Given as goal

abbrev pub invariant-loop-count : goal.invariant-loop-count
invariant-loop-count l =
    l.paths.items ++ by_rounds l.body (drop l.count-index l.rounds) ≡ by_rounds l.body l.rounds

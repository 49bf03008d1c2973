use Rattle.std.proofs.Common.{◌≡◌, ◌-◌}
use Rattle.msc_scenarios.specs.Counting.{repeated, unbroken}
use Rattle.msc_scenarios.proofs.counting.Paths.repeated.Given as goal

abbrev pub invariant-loop : goal.invariant-loop
invariant-loop l = repeated l.self (l.count - l.counter) l.paths ≡ repeated l.self l.count (unbroken 1)

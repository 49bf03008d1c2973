use Rattle.std.proofs.Common.{◌≡◌, ◌-◌}
use Rattle.msc_scenarios.specs.Choosing.{repeated, straight}
use Rattle.msc_scenarios.proofs.choosing.repeated.Given as goal

abbrev pub invariant-loop : goal.invariant-loop
invariant-loop l =
    repeated l.body (l.count - l.counter) l.paths.items ≡ repeated l.body l.count straight

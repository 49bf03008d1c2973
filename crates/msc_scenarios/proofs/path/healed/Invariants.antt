use Rattle.std.proofs.Common.{◌≡◌, false, map, take}
use Rattle.msc_scenarios.specs.Choosing.{with_end}
use Rattle.msc_scenarios.proofs.path.healed.Given as goal

abbrev pub invariant-loop-path : goal.invariant-loop-path
invariant-loop-path l = l.paths.items ≡ map (with_end false) (take l.path-index l.found)

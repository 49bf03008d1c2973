use Rattle.std.proofs.Common.{◌≡◌, take}
use Rattle.std.specs.List.{flat_map}
use Rattle.msc_scenarios.specs.Choosing.{goes_on}
use Rattle.msc_scenarios.proofs.path.behind.Given as goal

abbrev pub invariant-loop-path : goal.invariant-loop-path
invariant-loop-path l = l.paths.items ≡ flat_map (goes_on l.second) (take l.path-index l.first)

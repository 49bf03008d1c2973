use Rattle.std.proofs.Common.{◌≡◌, ◌++◌, map, take}
use Rattle.msc_scenarios.specs.Choosing.{under}
use Rattle.msc_scenarios.proofs.path.put_chosen.Given as goal

abbrev pub invariant-loop-path : goal.invariant-loop-path
invariant-loop-path l =
    l.paths.items ≡ l.fn.paths.items ++ map (under l.choice l.broken) (take l.path-index l.found)

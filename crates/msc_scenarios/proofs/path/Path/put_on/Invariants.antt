use Rattle.std.proofs.Common.{◌≡◌, ◌++◌, map, take}
use Rattle.msc_scenarios.specs.Choosing.{joined}
use Rattle.msc_scenarios.proofs.path.Path.put_on.Given as goal

abbrev pub invariant-loop-path : goal.invariant-loop-path
invariant-loop-path l =
    l.paths.items ≡ l.fn.paths.items ++ map (joined l.self) (take l.path-index l.next)

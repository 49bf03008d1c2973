use Rattle.std.proofs.Common.{◌≡◌, ◌++◌, drop, map, take}
use Rattle.msc_scenarios.specs.Choosing.{gone_on}
use Rattle.msc_scenarios.proofs.path.extended.Given as goal

abbrev pub invariant-loop-path : goal.invariant-loop-path
invariant-loop-path l = l.path-items ≡ map (gone_on l.next) (take l.path-index l.fn.first.items) ++ drop l.path-index l.fn.first.items

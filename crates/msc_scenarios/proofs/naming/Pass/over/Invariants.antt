use Rattle.std.proofs.Common.{◌≡◌, ◌++◌, drop}
use Rattle.msc_scenarios.specs.Naming.{passed}
use Rattle.msc_scenarios.proofs.naming.Pass.over.Given as goal

abbrev pub invariant-loop-i : goal.invariant-loop-i
invariant-loop-i l = l.left.items ++ passed l.self l.state (drop l.i l.bytes) ≡ passed l.self 0 l.bytes

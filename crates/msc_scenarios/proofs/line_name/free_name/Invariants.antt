use Rattle.std.proofs.Common.{◌≡◌, ◌+◌, ◌-◌, length}
use Rattle.msc_scenarios.specs.Naming.{free_name}
use Rattle.msc_scenarios.proofs.line_name.free_name.Given as goal

abbrev pub invariant-loop-i : goal.invariant-loop-i
invariant-loop-i l =
    free_name l.names l.name (l.i + 1) ((length l.names + 1) - l.i) ≡ free_name l.names l.name 1 (length l.names + 1)

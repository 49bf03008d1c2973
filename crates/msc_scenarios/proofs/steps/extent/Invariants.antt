use Rattle.std.proofs.Common.{◌≡◌, ◌≤◌, ◌+◌, drop}
use Rattle.msc_scenarios.specs.Steps.{extent}
use Rattle.msc_scenarios.proofs.steps.extent.Given as goal

abbrev pub invariant-loop-i : goal.invariant-loop-i
invariant-loop-i l =
    (l.i + extent l.depth (drop l.i l.statements) ≡ extent 0 l.statements) × (l.depth ≤ l.i)

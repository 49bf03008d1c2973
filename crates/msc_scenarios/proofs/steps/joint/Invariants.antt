use Rattle.std.proofs.Common.{◌≡◌, ◌≤◌, drop}
use Rattle.msc_scenarios.specs.Steps.{joint}
use Rattle.msc_scenarios.proofs.steps.joint.Given as goal

abbrev pub invariant-loop-i : goal.invariant-loop-i
invariant-loop-i l =
    (joint l.depth l.left (drop l.i l.statements) ≡ joint 0 l.number l.statements) × (l.depth ≤ l.i)

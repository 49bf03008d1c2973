use Rattle.std.proofs.Common.{◌≡◌, take}
use Rattle.std.specs.List.{flat_map}
use Rattle.msc_findings.specs.Findings.{step_in}
use Rattle.msc_findings.proofs.run.run_steps.Given as goal

abbrev pub invariant-loop-e : goal.invariant-loop-e
invariant-loop-e l = l.steps.items ≡ flat_map (step_in l.text) (take l.e-index l.run)

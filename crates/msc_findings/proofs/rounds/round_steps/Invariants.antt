use Rattle.std.proofs.Common.{◌≡◌, take}
use Rattle.std.specs.List.{flat_map}
use Rattle.msc_findings.specs.Rounds.{step_at}
use Rattle.msc_findings.proofs.rounds.round_steps.Given as goal

abbrev pub invariant-loop-k : goal.invariant-loop-k
invariant-loop-k l = l.steps.items ≡ flat_map (step_at l.text l.numbers) (take l.k-index l.run)

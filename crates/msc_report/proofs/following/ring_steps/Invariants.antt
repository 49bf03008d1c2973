use Rattle.std.proofs.Common.{◌≡◌, ◌∷◌, ◌++◌, [], drop}
use Rattle.msc_report.specs.Following.{steps_from}
use Rattle.msc_report.proofs.following.ring_steps.Given as goal

-- the steps so far and those from where it stands are all steps
abbrev pub invariant-loop-to : goal.invariant-loop-to
invariant-loop-to l =
    steps_from l.first (l.others ++ l.first ∷ []) ≡ l.steps.items ++ steps_from l.from (drop l.to-index l.others ++ l.first ∷ [])

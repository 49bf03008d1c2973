use Rattle.std.proofs.Common.{◌≡◌, drop}
use Rattle.msc_scanning.specs.Progress.{worst}
use Rattle.msc_scanning.proofs.progress.worst.Given as goal

-- with those that are left it is the worst of all
abbrev pub invariant-loop-one : goal.invariant-loop-one
invariant-loop-one l = worst l.status (drop l.one-index l.outcomes) ≡ worst l.initial.status l.outcomes

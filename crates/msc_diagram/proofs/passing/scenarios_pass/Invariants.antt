use Rattle.std.proofs.Common.{◌≡◌, List, take}
use Rattle.msc_diagram.specs.Judging.{NoneCounts}
use Rattle.msc_diagram.specs.Scenarios.{Case}
use Rattle.msc_diagram.specs.Stale.{idle_in, told_marks}
use Rattle.msc_diagram.proofs.passing.scenarios_pass.Given as goal

-- no race of the scenarios so far counts, and these marks accept none of theirs
abbrev pub invariant-loop-i : goal.invariant-loop-i
invariant-loop-i g l =
    (cases : List Case) × NoneCounts (take l.i (g.S.Source.scenarios l.scenarios)) l.check cases × (l.idle.items ≡ idle_in l.check cases (told_marks l.check.marks))

use Rattle.std.proofs.Common.{◌≡◌, ◌++◌, drop}
use Rattle.msc_arrow_marks.specs.Marks.{label_faults}
use Rattle.msc_arrow_marks.proofs.finding.label_faults.Given as goal

abbrev pub invariant-loop-placed : goal.invariant-loop-placed
invariant-loop-placed l = l.faults.items ++ label_faults (drop l.placed-index l.statements) ≡ l.initial.faults.items ++ label_faults l.statements

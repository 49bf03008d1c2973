use Rattle.std.proofs.Common.{◌≡◌, drop}
use Rattle.msc_findings.specs.Formats.{mark_of}
use Rattle.msc_findings.proofs.format.mark_of.Given as goal

abbrev pub invariant-loop-mark : goal.invariant-loop-mark
invariant-loop-mark l = mark_of l.marks l.event ≡ mark_of (drop l.mark-index l.marks) l.event

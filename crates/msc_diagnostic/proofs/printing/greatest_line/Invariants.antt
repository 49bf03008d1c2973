use Rattle.std.proofs.Common.{◌≡◌, take}
use Rattle.msc_diagnostic.specs.Blocks.{greatest_line}
use Rattle.msc_diagnostic.proofs.printing.greatest_line.Given as goal

abbrev pub invariant-loop-mark : goal.invariant-loop-mark
invariant-loop-mark l = l.greatest ≡ greatest_line (take l.mark-index l.marks)

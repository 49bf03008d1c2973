use Rattle.std.proofs.Common.{◌≡◌, take}
use Rattle.msc_diagnostic.specs.Windows.{last_column}
use Rattle.msc_diagnostic.proofs.window.last_column.Given as goal

abbrev pub invariant-loop-mark : goal.invariant-loop-mark
invariant-loop-mark l = l.last ≡ last_column l.line (take l.mark-index l.marks)

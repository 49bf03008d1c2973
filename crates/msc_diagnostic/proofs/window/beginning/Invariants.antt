use Rattle.std.proofs.Common.{◌≡◌, ◌+◌, drop}
use Rattle.msc_diagnostic.specs.Windows.{beginning}
use Rattle.msc_diagnostic.proofs.window.beginning.Given as goal

abbrev pub invariant-loop-i : goal.invariant-loop-i
invariant-loop-i l = l.i + beginning l.left (drop l.i l.characters) ≡ beginning l.column l.characters

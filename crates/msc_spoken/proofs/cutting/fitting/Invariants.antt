use Rattle.std.proofs.Common.{◌≡◌, ◌+◌, drop}
use Rattle.msc_spoken.specs.Cutting.{fitting}
use Rattle.msc_spoken.proofs.cutting.fitting.Given as goal

abbrev pub invariant-loop-i : goal.invariant-loop-i
invariant-loop-i l = l.i + fitting l.left (drop l.i l.characters) ≡ fitting l.room l.characters

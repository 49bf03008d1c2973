use Rattle.std.proofs.Common.{◌≡◌, ◌++◌, drop}
use Rattle.msc_spoken.specs.Speaking.{last_blanks}
use Rattle.msc_spoken.proofs.speaking.last_blanks.Given as goal

abbrev pub invariant-loop-i : goal.invariant-loop-i
invariant-loop-i l = l.left.items ++ last_blanks (drop l.i l.characters) ≡ last_blanks l.characters

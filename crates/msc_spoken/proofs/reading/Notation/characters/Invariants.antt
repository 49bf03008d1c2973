use Rattle.std.proofs.Common.{◌≡◌, ◌++◌, drop}
use Rattle.msc_spoken.specs.Reading.{read_front}
use Rattle.msc_spoken.specs.Replacing.{replaced}
use Rattle.msc_spoken.proofs.reading.Notation.characters.Given as goal

abbrev pub invariant-loop-i : goal.invariant-loop-i
invariant-loop-i l =
    l.characters.items ++ replaced (read_front l.self) l.more (drop l.i l.bytes) ≡ replaced (read_front l.self) 0 l.bytes

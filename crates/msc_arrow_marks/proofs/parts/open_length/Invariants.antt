use Rattle.std.proofs.Common.{◌≡◌, ◌+◌, drop, false}
use Rattle.msc_arrow_marks.specs.Parts.{open_length}
use Rattle.msc_arrow_marks.proofs.parts.open_length.Given as goal

abbrev pub invariant-loop-i : goal.invariant-loop-i
invariant-loop-i l = l.i + open_length l.separator l.quoted (drop l.i l.bytes) ≡ open_length l.separator false l.bytes

use Rattle.std.proofs.Common.{◌≡◌, ◌+◌, drop}
use Rattle.msc_arrow_marks.specs.Heads.{with_place}
use Rattle.msc_arrow_marks.proofs.head.with_place.Given as goal

abbrev pub invariant-loop-i : goal.invariant-loop-i
invariant-loop-i l = l.i + with_place (drop l.i l.text) ≡ with_place l.text

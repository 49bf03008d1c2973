use Rattle.std.proofs.Common.{◌≡◌, drop}
use Rattle.msc_arrow_marks.specs.Labels.{has_signed}
use Rattle.msc_arrow_marks.proofs.LabelLemmas.{now}
use Rattle.msc_arrow_marks.proofs.label.has_signed.Given as goal

abbrev pub invariant-loop-i : goal.invariant-loop-i
invariant-loop-i l = has_signed (drop l.i (now l.pieces)) ≡ has_signed (now l.pieces)

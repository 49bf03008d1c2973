use Rattle.std.proofs.Common.{◌≡◌, drop, map}
use Rattle.msc_arrow_marks.specs.Heads.{all_of, kind_in}
use Rattle.msc_arrow_marks.proofs.AllLemmas.{met}
use Rattle.msc_arrow_marks.proofs.head.kinds_of.Given as goal

abbrev pub invariant-loop-part : goal.invariant-loop-part
invariant-loop-part l = met kind_in l.kinds.items (drop l.part-index l.parts) ≡ all_of kind_in (map (λ part. part.now) l.parts)

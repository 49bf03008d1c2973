use Rattle.std.proofs.Common.{◌≡◌, map, take}
use Rattle.msc_arrow_marks.specs.Accepting.{spoken_other}
use Rattle.msc_arrow_marks.proofs.accepting.spoken_others.Given as goal

abbrev pub invariant-loop-other : goal.invariant-loop-other
invariant-loop-other l = l.spoken.items ≡ map spoken_other (take l.other-index l.others)

use Rattle.msc_picture.specs.Drawn.{HoldsTo}
use Rattle.msc_picture.proofs.drawn.Drawn.start.Given as goal

abbrev pub invariant-loop-i : goal.invariant-loop-i
invariant-loop-i l = HoldsTo l.f l.drawn l.i

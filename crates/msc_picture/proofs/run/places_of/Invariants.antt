use Rattle.std.proofs.Common.{◌-◌}
use Rattle.msc_picture.proofs.QueuedLemmas.{ArePlaced}
use Rattle.msc_picture.proofs.run.places_of.Given as goal

abbrev pub invariant-loop-back : goal.invariant-loop-back
invariant-loop-back l = ArePlaced l.run l.places.items l.many (l.end - l.back)

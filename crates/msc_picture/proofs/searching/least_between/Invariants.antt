use Rattle.msc_picture.specs.Courses.{frame_of}
use Rattle.msc_picture.specs.Ready.{HasNoneTo}
use Rattle.msc_picture.proofs.searching.least_between.Given as goal

abbrev pub invariant-loop-e : goal.invariant-loop-e
invariant-loop-e l = HasNoneTo (frame_of l.f) l.d.past.items l.rule l.e

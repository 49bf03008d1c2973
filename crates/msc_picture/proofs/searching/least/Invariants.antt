use Rattle.std.proofs.Common.{◌*◌}
use Rattle.msc_picture.specs.Courses.{frame_of}
use Rattle.msc_picture.specs.Ready.{HasNoneTo}
use Rattle.msc_picture.proofs.searching.least.Given as goal

abbrev pub invariant-loop-k : goal.invariant-loop-k
invariant-loop-k l = HasNoneTo (frame_of l.f) l.d.past.items l.rule (64 * l.k)

use Rattle.std.proofs.Common.{◌*◌}
use Rattle.msc_picture.specs.Courses.{frame_of}
use Rattle.msc_picture.specs.Frames.{MayFollow}
use Rattle.msc_picture.specs.Ready.{IsEarliestTo}
use Rattle.msc_picture.proofs.ordering.Drawing.earliest.Given as goal

abbrev pub invariant-loop-k : goal.invariant-loop-k
invariant-loop-k l =
    IsEarliestTo l.ranks (MayFollow (frame_of l.f) l.self.drawn.past.items) (64 * l.k) l.earliest

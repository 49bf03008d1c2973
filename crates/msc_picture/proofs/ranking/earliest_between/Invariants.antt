use Rattle.msc_picture.specs.Courses.{frame_of}
use Rattle.msc_picture.specs.Frames.{MayFollow}
use Rattle.msc_picture.specs.Ready.{IsEarliestTo}
use Rattle.msc_picture.proofs.ranking.earliest_between.Given as goal

abbrev pub invariant-loop-e : goal.invariant-loop-e
invariant-loop-e l =
    IsEarliestTo l.ranks (MayFollow (frame_of l.f) l.d.past.items) l.e l.earliest

use Rattle.msc_picture.specs.Courses.{IsDrawnTo, frame_of}
use Rattle.msc_picture.proofs.drawn.Drawn.next_left.Given as goal

abbrev pub invariant-loop-q : goal.invariant-loop-q
invariant-loop-q l = IsDrawnTo (frame_of l.f) l.f.course.items l.self.past.items l.i l.p l.q

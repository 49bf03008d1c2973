use Rattle.msc_picture.specs.Courses.{frame_of}
use Rattle.msc_picture.proofs.DrawnLemmas.{less_left, next_may}
use Rattle.msc_picture.proofs.ordering.draw_all.Goals as goal

pub loop-e-smaller : goal.loop-e-smaller
loop-e-smaller c =
    less_left (frame_of c.args.f.now) c.loop-e.drawing.drawn.past.items
    c.draw.new.self.drawn.past.items c.in-Some.e (next_may c.in-Some.ensures.some)
    c.in_ok-draw.ensures.past

use Rattle.std.proofs.Common.{refl}
use Rattle.msc_picture.specs.Courses.{frame_of, ranks_of}
use Rattle.msc_picture.proofs.CourseLemmas.{behind_begins}
use Rattle.msc_picture.proofs.DrawnLemmas.{drawing_begins}
use Rattle.msc_picture.proofs.drawn.Drawn.blank.Goals as goal

pub returns-clause-drawn : goal.returns-clause-drawn
returns-clause-drawn c =
    drawing_begins (frame_of c.args.f.now) (ranks_of c.args.f.now) _ _ _ _ c.events.ensures.number c.new.ensures.items refl
    (c.in_ok-vec.ensures.items_if_clones_equal (λ y e. e))

pub returns-clause-behind : goal.returns-clause-behind
returns-clause-behind c =
    behind_begins (frame_of c.args.f.now) c.args.f.now.course.items _ _ _ _ _
    c.instances.ensures.number c.facts.ensures.on_lines.on_line
    (c.in_ok-vec-2.ensures.items_if_clones_equal (λ y e. e))
    (c.in_ok-vec-3.ensures.items_if_clones_equal (λ y e. e))

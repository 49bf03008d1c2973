use Rattle.msc_picture.specs.Courses.{frame_of}
use Rattle.msc_picture.proofs.CourseLemmas.{behind_with, reached_with}
use Rattle.msc_picture.proofs.DrawnLemmas.{drawn_more}
use Rattle.msc_picture.proofs.drawn.Drawn.push.Goals as goal

pub returns-clause-held : goal.returns-clause-held
returns-clause-held c =
    drawn_more c.requires.held.drawn c.args.e _ c.requires.next c.in_ok-push.ensures.items

pub returns-clause-behind : goal.returns-clause-behind
returns-clause-behind c = behind_with c.requires.held.behind c.args.e _ c.in_ok-push.ensures.items

pub returns-clause-others : goal.returns-clause-others
returns-clause-others c j below apart =
    reached_with (frame_of c.args.f.now) c.args.f.now.course.items _ _ _ _ c.args.e j
    c.in_ok-push.ensures.items apart (c.requires.held.reached j below)

use Rattle.std.proofs.Common.{sym, ◌∙◌}
use Rattle.std.proofs.lemmas.Bool.{false≢true}
use Rattle.msc_picture.specs.Courses.{frame_of}
use Rattle.msc_picture.proofs.FollowLemmas.{may_follow_when, may_not_follow}
use Rattle.msc_picture.proofs.drawn.Drawn.may_follow.Goals as goal

pub returns-then-lacks_output : goal.returns-then-lacks_output
returns-then-lacks_output c = (
  λ h. absurd (false≢true h),
  λ may. absurd (may_not_follow (frame_of c.args.f.now) c.facts.ensures.matched
      c.args.self.now.past.items c.args.e (sym c.lacks_output.ensures ∙ c.if-lacks_output.true) may),
)

pub returns : goal.returns
returns c =
    may_follow_when (frame_of c.args.f.now) c.facts.ensures.matched c.args.self.now.past.items
    c.args.e c.is_clear.result c.requires.known (sym c.is_done.ensures ∙ c.if-is_done.false)
    (sym c.lacks_output.ensures ∙ c.if-lacks_output.false) c.is_clear.ensures

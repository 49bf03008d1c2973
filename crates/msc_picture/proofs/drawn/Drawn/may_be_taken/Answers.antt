use Rattle.std.proofs.Common.{ℕ, ◌↔◌, IsTrue, sym, ap, subst, ◌∙◌}
use Rattle.std.proofs.lemmas.Bool.{false≢true}
use Rattle.msc_chart.specs.Lists.{occurs}
use Rattle.msc_chart.proofs.ListLemmas.{clash}
use Rattle.msc_picture.specs.Courses.{frame_of}
use Rattle.msc_picture.specs.Drawn.{IsClear}
use Rattle.msc_picture.proofs.FollowLemmas.{taken_new, taken_when}
use Rattle.msc_picture.proofs.drawn.Drawn.may_be_taken.Goals as goal

pub returns-then-is_done : goal.returns-then-is_done
returns-then-is_done c =
    let other = c.other_end-other.ensures.value in
    let old = ap (λ (w : ℕ). occurs c.args.self.now.past.items w) (sym other)
    ∙ sym c.is_done.ensures ∙ c.if-is_done.true in (
      λ h. absurd (false≢true h),
      λ may. clash old
          (taken_new (frame_of c.args.f.now) c.facts.ensures.matched c.args.self.now.past.items
          c.args.s may),
    )

pub returns : goal.returns
returns c =
    let other = c.other_end-other.ensures.value in
    let new = ap (λ (w : ℕ). occurs c.args.self.now.past.items w) (sym other)
    ∙ sym c.is_done.ensures ∙ c.if-is_done.false in
    let tells = subst (λ (w : ℕ). IsTrue c.is_clear.result
    ↔ IsClear (frame_of c.args.f.now) c.args.self.now.past.items w) other c.is_clear.ensures in
    taken_when (frame_of c.args.f.now) c.facts.ensures.matched c.args.self.now.past.items c.args.s
    c.is_clear.result c.requires.known c.requires.output new tells

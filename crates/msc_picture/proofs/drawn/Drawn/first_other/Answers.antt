use Rattle.std.proofs.Common.{ℕ, sym, subst, ◌∙◌, true, false, ◌≡◌, ◌<◌, length, arith}
use Rattle.std.proofs.lemmas.Grind.{get_or_default_zero}
use Rattle.msc_picture.specs.Courses.{frame_of}
use Rattle.msc_picture.specs.Frames.{is_sent_as}
use Rattle.msc_picture.proofs.OpenLemmas.{first_other_read, second_other_read}
use Rattle.msc_picture.proofs.drawn.Drawn.first_other.Goals as goal

pub returns-then-first-len : goal.returns-then-first-len
returns-then-first-len c =
    first_other_read c.requires.laid.course c.requires.held.behind c.requires.held.reached c.args.e
    c.instance_of-line.result c.requires.known c.instance_of-line.ensures _ c.index-first.ensures
    (λ inside. absurd (omega (arith, inside, c.if-first-len.true, c.len.ensures)))

pub returns-then-is_sent_as : goal.returns-then-is_sent_as
returns-then-is_sent_as c =
    let inside : c.index-first.result.now < length c.args.f.now.course.items =
    omega (arith, c.if-first-len.false, c.len.ensures) in
    second_other_read c.requires.laid.course c.requires.held.behind c.requires.held.reached c.args.e
    c.instance_of-line.result c.requires.known c.instance_of-line.ensures c.facts.ensures.matched
    _ _ c.index-first.ensures c.index-then-is_sent_as.ensures inside
    (subst (λ (w : ℕ). is_sent_as (frame_of c.args.f.now) w c.args.e ≡ true)
    (c.index.ensures ∙ get_or_default_zero c.args.f.now.course.items _ _ inside)
    (sym c.is_sent_as.ensures ∙ c.if-is_sent_as.true))

pub returns : goal.returns
returns c =
    first_other_read c.requires.laid.course c.requires.held.behind c.requires.held.reached c.args.e
    c.instance_of-line.result c.requires.known c.instance_of-line.ensures _ c.index-first.ensures
    (λ inside. subst (λ (w : ℕ). is_sent_as (frame_of c.args.f.now) w c.args.e ≡ false)
    (c.index.ensures ∙ get_or_default_zero c.args.f.now.course.items _ _ inside)
    (sym c.is_sent_as.ensures ∙ c.if-is_sent_as.false))

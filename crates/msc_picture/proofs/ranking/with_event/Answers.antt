use Rattle.std.proofs.Common.{◌≡◌, subst, sym, ◌∙◌, arith}
use Rattle.std.proofs.lemmas.Bool.{false≢true}
use Rattle.msc_picture.specs.Courses.{frame_of}
use Rattle.msc_picture.specs.Frames.{MayFollow}
use Rattle.msc_picture.proofs.RankLemmas.{earliest_on}
use Rattle.msc_picture.proofs.ranking.with_event.Goals as goal

pub returns-then-not-may_follow : goal.returns-then-not-may_follow
returns-then-not-may_follow c =
    let may = MayFollow (frame_of c.args.f.now) c.args.d.now.past.items in
    earliest_on c.args.ranks.now may c.args.e _ c.args.best (λ x low high may_x.
    let same : x ≡ c.args.e = omega (arith, low, high) in
    false≢true (sym c.if-not-may_follow.true ∙ c.may_follow.ensures.1 (subst may same may_x)))
    (omega arith) c.requires.best

use Rattle.std.proofs.Common.{ℕ, subst}
use Rattle.msc_picture.specs.Courses.{frame_of}
use Rattle.msc_picture.specs.Ready.{IsListed}
use Rattle.msc_picture.proofs.CourseLemmas.{read_at}
use Rattle.msc_picture.proofs.ReadyLemmas.{listed_kept}
use Rattle.msc_picture.proofs.ready.Ready.list_from.Goals as goal

pub returns-then-is_above-clause-listed : goal.returns-then-is_above-clause-listed
returns-then-is_above-clause-listed c inside = (
  subst (λ (w : ℕ). IsListed (frame_of c.args.f.now) c.args.d.now.past.items
      c.list_level.new.self w)
      (read_at c.args.f.now.course.items c.args.p _ inside c.index-x.ensures)
      (listed_kept c.list_level.ensures.kept c.index-x.result.now c.list.ensures.listed),
  λ above. c.list_level.ensures.listed,
)

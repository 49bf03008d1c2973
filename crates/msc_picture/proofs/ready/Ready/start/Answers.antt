use Rattle.std.proofs.Common.{ℕ, inl, inr, subst, sym, arith}
use Rattle.std.proofs.lemmas.Bool.{cases_eq}
use Rattle.msc_picture.specs.Courses.{frame_of}
use Rattle.msc_picture.specs.Ready.{IsListed}
use Rattle.msc_picture.proofs.ReadyLemmas.{listed_kept}
use Rattle.msc_picture.proofs.ready.Ready.start.Goals as goal

pub loop-e-preserved : goal.loop-e-preserved
loop-e-preserved c = record {
  room = c.list.ensures.room;
  listed = λ x below. elim (cases_eq x c.loop-e.e) [
    | inl same ↦
        subst (λ (w : ℕ). IsListed (frame_of c.args.f.now) c.args.d.now.past.items c.list.new.self w)
        (sym same) c.list.ensures.listed
    | inr other ↦
        listed_kept c.list.ensures.kept x
        (c.loop-e.invariant.listed x (omega (arith, below, other)))
  ];
}

use Rattle.std.proofs.Common.{ℕ, sym, subst, inl, inr, arith}
use Rattle.std.proofs.lemmas.Bool.{cases_eq}
use Rattle.msc_picture.specs.Drawn.{HoldsLine}
use Rattle.msc_picture.proofs.drawn.Drawn.start.Goals as goal

pub loop-i-preserved : goal.loop-i-preserved
loop-i-preserved c = record {
  drawn = c.advance.ensures.held;
  behind = c.advance.ensures.behind;
  reached = λ j below. elim (cases_eq j c.loop-i.i) [
    | inl same ↦ subst (λ (w : ℕ). HoldsLine c.args.f.now c.advance.new.self w) (sym same)
        c.advance.ensures.reached
    | inr apart ↦ c.advance.ensures.others j apart
        (c.loop-i.invariant.reached j (omega (arith, below, apart)))
  ];
}

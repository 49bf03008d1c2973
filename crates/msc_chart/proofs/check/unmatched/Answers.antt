use Rattle.std.proofs.Common.{arith, map, ◌≡◌, inl, inr, subst}
use Rattle.std.proofs.lemmas.Bool.{cases_lt}
use Rattle.std.proofs.lemmas.List.{length-map}
use Rattle.msc_chart.specs.Views.{mark_view}
use Rattle.msc_chart.specs.Faults.{HoldsAt, IsUnmatched, OfEnd}
use Rattle.msc_chart.proofs.ListLemmas.{clash}
use Rattle.msc_chart.proofs.Stages.{holds_within}
use Rattle.msc_chart.proofs.check.unmatched.Goals as goal

pub returns-then-is_unmatched : goal.returns-then-is_unmatched
returns-then-is_unmatched c = record {
  itself = c.is_unmatched.ensures.0 c.if-is_unmatched.true;
  none_below = c.loop-e.invariant;
}

pub loop-e-preserved : goal.loop-e-preserved
loop-e-preserved c = λ k below h.
    elim (cases_lt k c.loop-e.e) [
      | inl lt ↦ c.loop-e.invariant k lt h
      | inr ge ↦
          let same : k ≡ c.loop-e.e = omega arith in
          let acts = map mark_view c.args.marks.now in
          let here = subst (HoldsAt (OfEnd (IsUnmatched c.args.sends acts)) acts) same h in
          clash (c.is_unmatched.ensures.1 here) c.if-is_unmatched.false
    ]

pub returns : goal.returns
returns c = λ k h.
    let within = holds_within (map mark_view c.args.marks.now) k h in
    c.loop-e.invariant k (omega (arith, within, length-map c.args.marks.now mark_view)) h

use Rattle.std.proofs.Common.{◌≡◌, ℕ, List, map, refl, sym, ◌∙◌, subst, inl, inr, arith}
use Rattle.std.specs.Borrow.{Bor}
use Rattle.std.proofs.lemmas.Bool.{cases_lt}
use Rattle.std.proofs.lemmas.Option.{slice_get_within}
use Rattle.std.proofs.lemmas.Slice.Eq.{bytes_eq-Decides}
use Rattle.std.proofs.lemmas.List.{length-map}
use Rattle.msc_chart.specs.Lists.{StandsAt}
use Rattle.msc_chart.proofs.ListLemmas.{clash}
use Rattle.msc_answer.proofs.Instances.{name_at, name_only}
use Rattle.msc_answer.proofs.readied.is_named.Goals as goal

pub returns-then-eq : goal.returns-then-eq
returns-then-eq c =
    let names = c.args.names.now in
    let i : ℕ = c.loop-name.name-index in
    let at = name_at names i _ c.loop-name-test.true in
    let same = sym c.as_bytes.ensures.value ∙ (bytes_eq-Decides c.as_bytes.result.now c.args.instance.now).0 (sym c.eq.ensures ∙ c.if-eq.true) in
    (λ h. (i, subst (StandsAt (map (λ name. name.now) names) i) same at), λ occurs. refl)

pub loop-name-preserved : goal.loop-name-preserved
loop-name-preserved c k below there =
    let names = c.args.names.now in
    let i : ℕ = c.loop-name.name-index in
    elim (cases_lt k i) [
      | inl less ↦ c.loop-name.invariant k less there
      | inr past ↦
          let same : k ≡ i = omega (arith, below, past) in
          let own = name_only names i _ c.loop-name-test.true c.args.instance.now (subst (λ (n : ℕ). StandsAt (map (λ name. name.now) names) n c.args.instance.now) same there) in
          clash (c.eq.ensures ∙ (bytes_eq-Decides c.as_bytes.result.now c.args.instance.now).1 (c.as_bytes.ensures.value ∙ sym own)) c.if-eq.false
    ]

pub returns : goal.returns
returns c = (
  λ h. clash h refl,
  λ occurs.
      let names = c.args.names.now in
      let inside = slice_get_within (map (λ name. name.now) names) occurs.0 c.args.instance.now occurs.1 in
      let size = length-map names (λ (name : Bor (List ℕ)). name.now) in
      let past = c.loop-name-test.false in
      absurd (c.loop-name.invariant occurs.0 (omega (arith, inside, size, past)) occurs.1),
)

-- The least of the events that may follow, line by line.
use Rattle.std.proofs.Common.{◌≡◌, ℕ, ◌+◌, ◌≤◌, inl, inr, List, Option, Some, None, IfSome, min, refl, sym, subst, arith}
use Rattle.std.proofs.lemmas.Bool.{cases_lt}
use Rattle.msc_chart.specs.Charts.{line}
use Rattle.msc_chart.specs.Orders.{WiredChart}
use Rattle.msc_gather.specs.Schedule.{MayFollow}
use Rattle.msc_gather.specs.Merges.{MayFollowOn, IsBest}

-- of no line there is none
pub best_begins : (chart : WiredChart) (logs : List (List ℕ)) (past : List ℕ)
    → IsBest chart logs past 0 None
best_begins chart logs past = record
    { itself = λ x e. cc; least = λ x may below. let f : ⊥ = omega arith in absurd f }

-- one more line
pub best_more : (chart : WiredChart) (logs : List (List ℕ)) (past : List ℕ) (n : ℕ)
    (best head next : Option ℕ) → IsBest chart logs past n best
    → IfSome head (λ x. MayFollowOn chart logs past n x)
    → ((x : ℕ) → MayFollowOn chart logs past n x → head ≡ Some x)
    → (best ≡ None → next ≡ head) → (head ≡ None → next ≡ best)
    → ((x y : ℕ) → best ≡ Some x → head ≡ Some y → next ≡ Some (min x y))
    → IsBest chart logs past (n + 1) next
best_more chart logs past n None None next b some least none other both =
    let e : next ≡ None = none refl in
    subst (λ (o : Option ℕ). IsBest chart logs past (n + 1) o) (sym e) (record {
      itself = λ x f. cc;
      least = λ x may below. elim (cases_lt (line chart.events x) n) [
        | inl lt ↦ b.least x may lt
        | inr ge ↦ let same : line chart.events x ≡ n = omega arith in let f =
            least x (may, same) in cc
      ];
    })
best_more chart logs past n None (Some y) next b some least none other both =
    let e : next ≡ Some y = none refl in
    subst (λ (o : Option ℕ). IsBest chart logs past (n + 1) o) (sym e) (record {
      itself = λ x f. let same : y ≡ x = cc in subst (λ (w : ℕ). MayFollow chart logs past w) same
          some.0;
      least = λ x may below. elim (cases_lt (line chart.events x) n) [
        | inl lt ↦ absurd (b.least x may lt)
        | inr ge ↦ let on : line chart.events x ≡ n = omega arith in let f =
            least x (may, on) in let same : y ≡ x = cc in omega arith
      ];
    })
best_more chart logs past n (Some z) None next b some least none other both =
    let e : next ≡ Some z = other refl in
    subst (λ (o : Option ℕ). IsBest chart logs past (n + 1) o) (sym e) (record {
      itself = b.itself;
      least = λ x may below. elim (cases_lt (line chart.events x) n) [
        | inl lt ↦ b.least x may lt
        | inr ge ↦ let on : line chart.events x ≡ n = omega arith in let f = least x (may, on) in cc
      ];
    })
best_more chart logs past n (Some z) (Some y) next b some least none other both =
    let e : next ≡ Some (min z y) = both z y refl refl in
    subst (λ (o : Option ℕ). IsBest chart logs past (n + 1) o) (sym e) (record {
      itself = λ x f.
          let same : min z y ≡ x = cc in
          elim (cases_lt z y) [
            | inl lt ↦ let zx : z ≡ x = omega
                arith in subst (λ (w : ℕ). MayFollow chart logs past w) zx (b.itself z refl)
            | inr ge ↦ let yx : y ≡ x = omega
                arith in subst (λ (w : ℕ). MayFollow chart logs past w) yx some.0
          ];
      least = λ x may below. elim (cases_lt (line chart.events x) n) [
        | inl lt ↦ let up : z ≤ x = b.least x may lt in omega arith
        | inr ge ↦ let on : line chart.events x ≡ n = omega arith in let f =
            least x (may, on) in let same : y ≡ x = cc in omega arith
      ];
    })

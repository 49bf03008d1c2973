-- Numbers of keys that differ: each key has one, and a look-up finds it.
use Rattle.std.proofs.Common.{◌≡◌, ℕ, ◌<◌, Bool, true, false, nat_eq, List, [], ◌∷◌, ◌++◌, get_or, slice_get, Some, zero, suc, sym, ap, ◌∙◌, subst, arith, inl, inr}
use Rattle.std.specs.List.{position, list_any, AllByRecursion, IsDistinct}
use Rattle.std.specs.Prelude.{cond}
use Rattle.std.proofs.lemmas.Bool.{cases_lt, eq-eqb, eqb-true, false_from_ne_true}
use Rattle.std.proofs.lemmas.List.Quantifiers.{position-Some}
use Rattle.std.proofs.lemmas.Map.Keys.{any_passes_from_place}
use Rattle.std.proofs.lemmas.Option.{get_or_from_slice_get, slice_get-get_or}
use Rattle.msc_chart.proofs.ListLemmas.{by_test, clash}

-- what holds of each key holds of the one at a place
holds_at : {K : Type 0} (P : K → Type 0) (ks : List K) (q : ℕ) (k : K) → AllByRecursion P ks
    → slice_get ks q ≡ Some k → P k
holds_at P [] q k h there = cc
holds_at P (x ∷ xs) zero k h there = let same : x ≡ k = cc in subst P same h.0
holds_at P (x ∷ xs) (suc q) k h there = holds_at P xs q k h.1 there

module _ {K : Type 0} (eq : K → K → Bool) where
  -- of two places the keys differ
  differ : (ks : List K) (p q : ℕ) (a b : K) → IsDistinct eq ks → p < q → slice_get ks p ≡ Some a
      → slice_get ks q ≡ Some b → eq a b ≡ false
  unfolding IsDistinct
  differ [] p q a b h less here there = cc
  differ (x ∷ xs) zero zero a b h less here there = absurd (omega arith)
  differ (x ∷ xs) zero (suc q) a b h less here there =
      let same : x ≡ a = cc in
      subst (λ y. eq y b ≡ false) same (holds_at (λ y. eq x y ≡ false) xs q b h.0 there)
  differ (x ∷ xs) (suc p) zero a b h less here there = absurd (omega arith)
  differ (x ∷ xs) (suc p) (suc q) a b h less here there = differ xs p q a b h.1 (omega arith) here there

  -- keys that are equal have one place
  pub one_place : (ks : List K) (p q : ℕ) (a b : K) → IsDistinct eq ks → slice_get ks p ≡ Some a
      → slice_get ks q ≡ Some b → eq a b ≡ true → eq b a ≡ true → p ≡ q
  one_place ks p q a b h here there same back =
      elim (cases_lt p q) [
        | inl before ↦ absurd (clash same (differ ks p q a b h before here there))
        | inr past ↦
            elim (cases_lt q p) [
              | inl after ↦ absurd (clash back (differ ks q p b a h after there here))
              | inr within ↦ omega arith
            ]
      ]

  -- a key that is not found is none of them
  pub place_none : (ks : List K) (i k : K) (q : ℕ) → list_any (eq i) ks ≡ false → slice_get ks q ≡ Some k
      → eq i k ≡ false
  place_none ks i k q none there =
      false_from_ne_true _ (λ same. clash (any_passes_from_place (eq i) ks q k there same) none)

  -- one more key leaves the others at their places
  place_pushed : (ks : List K) (i k : K) (q : ℕ) → slice_get ks q ≡ Some k → slice_get (ks ++ i ∷ []) q ≡ Some k
  place_pushed [] i k q there = cc
  place_pushed (x ∷ xs) i k zero there = there
  place_pushed (x ∷ xs) i k (suc q) there = place_pushed xs i k q there

  -- an inserted key leaves the others at their places
  pub place_kept : (ks : List K) (i k : K) (q : ℕ) → slice_get ks q ≡ Some k
      → slice_get (cond (list_any (eq i) ks) ks (ks ++ i ∷ [])) q ≡ Some k
  place_kept ks i k q there =
      elim (list_any (eq i) ks) as (λ b. slice_get (cond b ks (ks ++ i ∷ [])) q ≡ Some k) [
        | true ↦ there
        | false ↦ place_pushed ks i k q there
      ]

  -- whether the key at a place is this one, by the place that the look-up finds
  pub place_is : (ks : List K) (i k : K) (p q : ℕ) → position (eq i) ks ≡ Some p → slice_get ks q ≡ Some k
      → ((a : K) → slice_get ks p ≡ Some a → eq i a ≡ true → eq i k ≡ true → q ≡ p) → nat_eq q p ≡ eq i k
  place_is ks i k p q found there one =
      let parts = position-Some (eq i) ks p k found in
      by_test (eq i k)
      (λ same.
      eq-eqb q p (one (get_or ks p k) (slice_get-get_or ks p k parts.0) parts.1 same) ∙ sym same)
      (λ other.
      false_from_ne_true _ (λ at.
      let same : q ≡ p = eqb-true q p at in
      let key = sym (get_or_from_slice_get ks q k k there) ∙ ap (λ n. get_or ks n k) same in
      clash (ap (eq i) key ∙ parts.1) other)
      ∙ sym other)

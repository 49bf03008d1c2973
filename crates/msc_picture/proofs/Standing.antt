-- Items that stand in lists, and in lists that are made of ranges.
use Rattle.std.proofs.Common.{◌≡◌, ℕ, zero, suc, ◌+◌, ◌<◌, ◌≤◌, ◌⊎◌, Bool, true, List, [], ◌∷◌, ◌++◌, length, get_or, filter, Some, eqb, inl, inr, sym, ap, subst, ◌∙◌, arith}
use Rattle.std.specs.Prelude.{slice_get}
use Rattle.std.specs.List.{flat_map, list_any, range_with_len}
use Rattle.std.proofs.lemmas.Bool.{or_left, or_right, or_cases, eq-eqb, cases_eq, false≢true}
use Rattle.msc_chart.specs.Lists.{occurs, Occurs}
use Rattle.msc_chart.proofs.ListLemmas.{by_test}

-- an item that stands in a list
pub stands : {X : Type 0} (xs : List X) (k : ℕ) (x d : X) → slice_get xs k ≡ Some x
    → (k < length xs) × (get_or xs k d ≡ x)
stands [] k x d h = let f : ⊥ = cc in absurd f
stands (y ∷ ys) zero x d h = (omega arith, cc)
stands (y ∷ ys) (suc k) x d h =
    let on = stands ys k x d h in (omega (arith, on.0), on.1)

-- it stands there too behind others
pub stands_behind : {X : Type 0} (xs ys : List X) (x : X) → Occurs ys x → Occurs (xs ++ ys) x
stands_behind [] ys x h = h
stands_behind (z ∷ zs) ys x h = let on = stands_behind zs ys x h in (suc on.0, on.1)

-- and before others
pub stands_front : {X : Type 0} (xs ys : List X) (k : ℕ) (x : X) → slice_get xs k ≡ Some x
    → slice_get (xs ++ ys) k ≡ Some x
stands_front [] ys k x h = let f : ⊥ = cc in absurd f
stands_front (z ∷ zs) ys zero x h = h
stands_front (z ∷ zs) ys (suc k) x h = stands_front zs ys k x h

-- and in what is made of a range, where it is made of a number of that
pub stands_flat : {X : Type 0} (g : ℕ → List X) (a n b : ℕ) (x : X) → a ≤ b → b < a + n → Occurs (g b) x
    → Occurs (flat_map g (range_with_len a n)) x
stands_flat g a zero b x low high h = absurd (omega arith)
stands_flat {X} g a (suc n) b x low high h = elim (cases_eq a b) [
  | inl same ↦
      let here : Occurs (g a) x = subst (λ (j : ℕ). Occurs (g j) x) (sym same) h in
      (here.0, stands_front (g a) (flat_map g (range_with_len (a + 1) n)) here.0 x here.1)
  | inr other ↦
      stands_behind (g a) (flat_map g (range_with_len (a + 1) n)) x
      (stands_flat g (a + 1) n b x (omega (arith, other)) (omega arith) h)
]

-- a number of a range that passes is kept
pub kept : (p : ℕ → Bool) (a n x : ℕ) → a ≤ x → x < a + n → p x ≡ true
    → occurs (filter p (range_with_len a n)) x ≡ true
unfolding occurs
kept p a zero x low high h = absurd (omega arith)
kept p a (suc n) x low high h = elim (cases_eq a x) [
  | inl same ↦
      let yes : p a ≡ true = ap p same ∙ h in
      rw yes (or_left (eqb a x) (occurs (filter p (range_with_len (a + 1) n)) x) (eq-eqb a x same))
  | inr other ↦
      let on = kept p (a + 1) n x (omega (arith, other)) (omega arith) h in
      by_test (p a)
      (λ yes. rw yes (or_right (eqb a x) (occurs (filter p (range_with_len (a + 1) n)) x) on))
      (λ no. rw no on)
]

-- some item passes
pub any_there : {X : Type 0} (test : X → Bool) (xs : List X) (k : ℕ) (x : X) → slice_get xs k ≡ Some x
    → test x ≡ true → list_any test xs ≡ true
any_there test [] k x at h = let f : ⊥ = cc in absurd f
any_there test (y ∷ ys) zero x at h =
    let same : y ≡ x = cc in or_left (test y) (list_any test ys) (ap test same ∙ h)
any_there test (y ∷ ys) (suc k) x at h =
    or_right (test y) (list_any test ys) (any_there test ys k x at h)

-- and where one does, it stands somewhere
pub any_where : {X : Type 0} (test : X → Bool) (xs : List X) (d : X) → list_any test xs ≡ true
    → (k : ℕ) × (k < length xs) × (test (get_or xs k d) ≡ true)
any_where test [] d h = absurd (false≢true h)
any_where test (y ∷ ys) d h = elim (or_cases (test y) (list_any test ys) h) [
  | inl here ↦ (0, omega arith, here)
  | inr later ↦
      let on = any_where test ys d later in (suc on.0, omega (arith, on.1), on.2)
]

-- what stands in two lists joined stands in one of them
pub split_at : {X : Type 0} (xs ys : List X) (k : ℕ) (x : X) → slice_get (xs ++ ys) k ≡ Some x
    → Occurs xs x ⊎ Occurs ys x
split_at [] ys k x at = inr (k, at)
split_at (z ∷ zs) ys zero x at = inl (0, at)
split_at (z ∷ zs) ys (suc k) x at = elim (split_at zs ys k x at) [
  | inl front ↦ inl (suc front.0, front.1)
  | inr rest ↦ inr rest
]

-- what is made of a range is made of one of its numbers
pub flat_where : {X : Type 0} (g : ℕ → List X) (a n : ℕ) (x : X)
    → Occurs (flat_map g (range_with_len a n)) x
    → (b : ℕ) × (a ≤ b) × (b < a + n) × Occurs (g b) x
flat_where g a zero x h = let f : ⊥ = cc (h.1) in absurd f
flat_where g a (suc n) x h =
    elim (split_at (g a) (flat_map g (range_with_len (a + 1) n)) h.0 x h.1) [
      | inl here ↦ (a, omega arith, omega arith, here)
      | inr later ↦
          let on = flat_where g (a + 1) n x later in
          (on.0, omega (arith, on.1), omega (arith, on.2), on.3)
    ]

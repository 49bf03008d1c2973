-- Tests of the numbers below a bound: how many pass, the least that passes, and one with nothing before it.
use Rattle.std.proofs.Common.{◌≡◌, ℕ, zero, suc, ◌+◌, ◌<◌, ◌≤◌, Bool, true, false, not, cond, ◌&&◌, ◌||◌, ◌⊎◌, inl, inr, eqb, refl, sym, subst, arith}
use Rattle.std.proofs.Math.Bool.{and-false}
use Rattle.std.proofs.lemmas.Bool.{eqb-true, eq-eqb, ne_eqb, cases_lt, cases_eq, and_parts, and_from, and_cases, not_from_false, false_from_ne_true, or_parts, or_cases}
use Rattle.msc_chart.proofs.ListLemmas.{by_test, clash}

-- how many numbers below a bound pass
pub count_below : (ℕ → Bool) → ℕ → ℕ
count_below p zero = zero
count_below p (suc n) = cond (p n) (suc (count_below p n)) (count_below p n)

-- a test that passes less passes no more numbers
pub count-le : (p q : ℕ → Bool) (n : ℕ) → ((k : ℕ) → k < n → q k ≡ true → p k ≡ true) → count_below q n ≤ count_below p n
unfolding count_below
count-le p q zero h = omega arith
count-le p q (suc n) h =
    let rest : count_below q n ≤ count_below p n = count-le p q n (λ k below. h k (omega arith)) in
    (elim (q n) as (λ b. q n ≡ b → cond b (suc (count_below q n)) (count_below q n) ≤ cond (p n) (suc (count_below p n)) (count_below p n)) [
      | true ↦ λ passes. let e : p n ≡ true = h n (omega arith) passes in rw e (omega arith)
      | false ↦ λ fails. (elim (p n) as (λ b. count_below q n ≤ cond b (suc (count_below p n)) (count_below p n)) [ true ↦ omega arith | false ↦ rest ])
    ]) refl

-- a test that passes less passes fewer numbers
pub count-less : (p q : ℕ → Bool) (n x : ℕ) → ((k : ℕ) → k < n → q k ≡ true → p k ≡ true) → x < n → p x ≡ true → q x ≡ false → count_below q n < count_below p n
unfolding count_below
count-less p q zero x h below good bad = omega arith
count-less p q (suc n) x h below good bad =
    elim (cases_eq x n) [
      | inl same ↦
          let pn : p n ≡ true = rw (← same) good in
          let qn : q n ≡ false = rw (← same) bad in
          let rest : count_below q n ≤ count_below p n = count-le p q n (λ k lt. h k (omega arith)) in
          rw (pn, qn) (omega arith)
      | inr other ↦
          let rest : count_below q n < count_below p n = count-less p q n x (λ k lt. h k (omega arith)) (omega arith) good bad in
          (elim (q n) as (λ b. q n ≡ b → cond b (suc (count_below q n)) (count_below q n) < cond (p n) (suc (count_below p n)) (count_below p n)) [
            | true ↦ λ passes. let e : p n ≡ true = h n (omega arith) passes in rw e (omega arith)
            | false ↦ λ fails. (elim (p n) as (λ b. count_below q n < cond b (suc (count_below p n)) (count_below p n)) [ true ↦ omega arith | false ↦ rest ])
          ]) refl
    ]

-- the least number below a bound that passes, or that none does
pub find_below : (p : ℕ → Bool) (n : ℕ) → ((k : ℕ) × (k < n) × (p k ≡ true) × ((j : ℕ) → j < k → p j ≡ false)) ⊎ ((k : ℕ) → k < n → p k ≡ false)
find_below p zero = inr (λ k below. let h : ⊥ = omega arith in absurd h)
find_below p (suc n) =
    elim (find_below p n) [
      | inl found ↦ inl (found.0, omega arith, found.2, found.3)
      | inr none ↦ by_test (p n)
          (λ passes. inl (n, omega arith, passes, none))
          (λ fails. inr (λ k below. elim (cases_lt k n) [ inl lt ↦ none k lt | inr ge ↦ let e : k ≡ n = omega arith in rw e fails ]))
    ]

module _ (n : ℕ) (step : ℕ → ℕ → Bool) (R : ℕ → ℕ → Type 0)
    (base : (x y : ℕ) → step x y ≡ true → R x y)
    (trans : (x y z : ℕ) → R x y → R y z → R x z)
    (irreflexive : (x : ℕ) → x < n → R x x → ⊥) where
  -- From a number that passes, go back to one that passes and has none that passes a step before it.
  pub descend : (fuel : ℕ) (p : ℕ → Bool) → count_below p n ≤ fuel → (g : ℕ) → g < n → p g ≡ true
      → (x : ℕ) × (x < n) × (p x ≡ true) × ((x ≡ g) ⊎ R x g) × ((y : ℕ) → y < n → p y ≡ true → step y x ≡ false)
  descend zero p enough g below good =
      let less : count_below (λ k. false) n < count_below p n = count-less p (λ k. false) n g (λ k lt h. clash h refl) below good refl in
      let h : ⊥ = omega arith in absurd h
  descend (suc fuel) p enough g below good =
      elim (find_below (λ y. p y && step y g) n) [
        | inr none ↦ (g, below, good, inl refl, λ y lt passes. elim (and_cases _ _ (none y lt)) [ inl bad ↦ clash passes bad | inr bad ↦ bad ])
        | inl found ↦
            let y : ℕ = found.0 in
            let passes = and_parts (p y) (step y g) found.2 in
            let q : ℕ → Bool = λ z. p z && not (eqb z g) in
            let other : y ≡ g → ⊥ = λ e. irreflexive g below (base g g (subst (λ (z : ℕ). step z g ≡ true) e passes.1)) in
            let still : q y ≡ true = and_from (p y) (not (eqb y g)) passes.0 (not_from_false _ (ne_eqb y g other)) in
            let gone : q g ≡ false = rw (eq-eqb g g refl) (and-false (p g)) in
            let less : count_below q n < count_below p n = count-less p q n g (λ k lt h. (and_parts (p k) _ h).0) below good gone in
            let deep = descend fuel q (omega arith) y found.1 still in
            let x : ℕ = deep.0 in
            let before_g : R x g = elim deep.3 [ inl same ↦ subst (λ (z : ℕ). R z g) (sym same) (base y g passes.1) | inr r ↦ trans x y g r (base y g passes.1) ] in (
              x,
              deep.1,
              (and_parts (p x) _ deep.2).0,
              inr before_g,
              λ z lt h. by_test (eqb z g)
                  (λ same. false_from_ne_true _ (λ s. irreflexive g below (trans g x g (base g x (subst (λ (w : ℕ). step w x ≡ true) (eqb-true z g same) s)) before_g)))
                  (λ differs. deep.4 z lt (and_from (p z) _ h (not_from_false _ differs))),
            )
      ]

-- some number below a bound passes
abbrev pub any_below : (ℕ → Bool) → ℕ → Bool
any_below p zero = false
any_below p (suc n) = p n || any_below p n

-- where none of them passes, each fails
pub none_of_any : (p : ℕ → Bool) (n : ℕ) → any_below p n ≡ false → (k : ℕ) → k < n → p k ≡ false
none_of_any p zero h k below = let f : ⊥ = omega arith in absurd f
none_of_any p (suc n) h k below =
    let both : (p n ≡ false) × (any_below p n ≡ false) = or_parts (p n) (any_below p n) h in
    elim (cases_lt k n) [ inl lt ↦ none_of_any p n both.1 k lt | inr ge ↦ let same : k ≡ n = omega (arith, ge, below) in rw same both.0 ]

-- where one passes, here is one
pub some_of_any : (p : ℕ → Bool) (n : ℕ) → any_below p n ≡ true → (k : ℕ) × (k < n) × (p k ≡ true)
some_of_any p zero h = clash h refl
some_of_any p (suc n) h =
    elim (or_cases (p n) (any_below p n) h) [
      | inl here ↦ (n, omega arith, here)
      | inr below ↦ let found = some_of_any p n below in (found.0, omega arith, found.2)
    ]

-- a number that passes is some number that passes
pub any_from : (p : ℕ → Bool) (n k : ℕ) → k < n → p k ≡ true → any_below p n ≡ true
any_from p n k below h = by_test (any_below p n) (λ some. some) (λ none. clash h (none_of_any p n none k below))

-- the sum of a function of the numbers below a bound
pub sum_below : (ℕ → ℕ) → ℕ → ℕ
sum_below f zero = zero
sum_below f (suc n) = f n + sum_below f n

-- a function that is smaller, or equal, everywhere has no greater sum
pub sum-le : (f g : ℕ → ℕ) (n : ℕ) → ((k : ℕ) → k < n → g k ≤ f k) → sum_below g n ≤ sum_below f n
unfolding sum_below
sum-le f g zero h = omega arith
sum-le f g (suc n) h =
    let rest : sum_below g n ≤ sum_below f n = sum-le f g n (λ k below. h k (omega arith)) in
    let last : g n ≤ f n = h n (omega arith) in omega arith

-- and where it is smaller at one place, its sum is smaller
pub sum-less : (f g : ℕ → ℕ) (n x : ℕ) → ((k : ℕ) → k < n → g k ≤ f k) → x < n → g x < f x → sum_below g n < sum_below f n
unfolding sum_below
sum-less f g zero x h below less = omega arith
sum-less f g (suc n) x h below less =
    elim (cases_eq x n) [
      | inl same ↦
          let rest : sum_below g n ≤ sum_below f n = sum-le f g n (λ k lt. h k (omega arith)) in
          let last : g n < f n = subst (λ (z : ℕ). g z < f z) same less in omega arith
      | inr other ↦
          let rest : sum_below g n < sum_below f n = sum-less f g n x (λ k lt. h k (omega arith)) (omega arith) less in
          let last : g n ≤ f n = h n (omega arith) in omega arith
    ]

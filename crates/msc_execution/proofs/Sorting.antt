-- Sorting a list of events: what it holds, and what stands before what.
use Rattle.std.proofs.Common.{◌≡◌, ℕ, ◌<◌, ◌≤◌, Bool, true, false, cond, ◌||◌, inl, inr, eqb, List, [], ◌∷◌, refl, sym, ap, subst, ◌∙◌, arith}
use Rattle.std.proofs.lemmas.Bool.{eqb-true, eq-eqb, ltb-true, lt-ltb, cases_lt, and_parts, and_from, or_cases, or_left, or_right, or_parts, or_from, false_from_ne_true}
use Rattle.msc_chart.specs.Lists.{occurs, until}
use Rattle.msc_chart.proofs.ListLemmas.{clash, IsDistinct}
use Rattle.msc_execution.specs.Clocks.{is_below, put_in, sorted}

-- comparing keys
pub below_first : (x y : ℕ) (xs ys : List ℕ) → x < y → is_below (x ∷ xs) (y ∷ ys) ≡ true
unfolding is_below
below_first x y xs ys h = or_left _ _ (lt-ltb x y h)

-- a key is below another where its first entry is no greater and the rest is below
pub below_then : (x y : ℕ) (xs ys : List ℕ) → x ≤ y → is_below xs ys ≡ true
    → is_below (x ∷ xs) (y ∷ ys) ≡ true
unfolding is_below
below_then x y xs ys h k =
    elim (cases_lt x y) [
      | inl lt ↦ or_left _ _ (lt-ltb x y lt)
      | inr ge ↦ or_right _ _ (and_from _ _ (eq-eqb x y (omega arith)) k)
    ]

-- no key is below itself
pub below_self : (xs : List ℕ) → is_below xs xs ≡ true → ⊥
unfolding is_below
below_self [] h = clash h refl
below_self (x ∷ xs) h =
    elim (or_cases _ _ h) [
      | inl lt ↦ let k : x < x = ltb-true x x lt in omega arith
      | inr later ↦ below_self xs (and_parts _ _ later).1
    ]

-- what is below a key that is below another is below that one
pub below_trans : (xs ys zs : List ℕ) → is_below xs ys ≡ true → is_below ys zs ≡ true
    → is_below xs zs ≡ true
unfolding is_below
below_trans [] ys zs h k = clash h refl
below_trans (x ∷ xs) [] zs h k = clash h refl
below_trans (x ∷ xs) (y ∷ ys) [] h k = clash k refl
below_trans (x ∷ xs) (y ∷ ys) (z ∷ zs) h k =
    elim (or_cases _ _ h) [
      | inl lt ↦
          let xy : x < y = ltb-true x y lt in
          elim (or_cases _ _ k) [
            | inl lt2 ↦ let yz : y < z = ltb-true y z lt2 in or_left _ _ (lt-ltb x z (omega arith))
            | inr later ↦ let yz : y ≡ z = eqb-true y z (and_parts _ _ later).0 in or_left _ _
                (lt-ltb x z (omega arith))
          ]
      | inr later ↦
          let p = and_parts _ _ later in
          let xy : x ≡ y = eqb-true x y p.0 in
          elim (or_cases _ _ k) [
            | inl lt ↦ let yz : y < z = ltb-true y z lt in or_left _ _ (lt-ltb x z (omega arith))
            | inr later2 ↦
                let q = and_parts _ _ later2 in
                let yz : y ≡ z = eqb-true y z q.0 in
                or_right _ _ (and_from _ _ (eq-eqb x z (omega arith))
                (below_trans xs ys zs p.1 q.1))
          ]
    ]

-- the first two of three tests change places
or-swap : (a b c : Bool) → (a || (b || c)) ≡ (b || (a || c))
or-swap true true c = refl
or-swap true false c = refl
or-swap false b c = refl

-- a list with one number put in has that one and what it had
pub occurs-put_in : (less : ℕ → ℕ → Bool) (x : ℕ) (ys : List ℕ) (e : ℕ)
    → occurs (put_in less x ys) e ≡ occurs (x ∷ ys) e
unfolding occurs put_in
occurs-put_in less x [] e = refl
occurs-put_in less x (y ∷ ys) e =
    (elim (less x y) as (λ b. occurs (cond b (x ∷ y ∷ ys) (y ∷ put_in less x ys)) e
    ≡ occurs (x ∷ y ∷ ys) e) [
      | true ↦ refl
      | false ↦ ap (λ b. eqb y e || b) (occurs-put_in less x ys e)
          ∙ or-swap (eqb y e) (eqb x e) (occurs ys e)
    ])

-- a sorted list has what the list has
pub occurs-sorted : (less : ℕ → ℕ → Bool) (xs : List ℕ) (e : ℕ)
    → occurs (sorted less xs) e ≡ occurs xs e
unfolding occurs sorted
occurs-sorted less [] e = refl
occurs-sorted less (x ∷ xs) e = occurs-put_in less x (sorted less xs) e
    ∙ ap (λ b. eqb x e || b) (occurs-sorted less xs e)

-- a new number put in stands there once
IsDistinct-put_in : (less : ℕ → ℕ → Bool) (x : ℕ) (ys : List ℕ) → IsDistinct ys → occurs ys x ≡ false
    → IsDistinct (put_in less x ys)
unfolding occurs put_in
IsDistinct-put_in less x [] h new = (refl, tt)
IsDistinct-put_in less x (y ∷ ys) h new =
    let new_parts = or_parts (eqb y x) (occurs ys x) new in
    (elim (less x y) as (λ b. IsDistinct (cond b (x ∷ y ∷ ys) (y ∷ put_in less x ys))) [
      | true ↦ (new, h)
      | false ↦ (
        occurs-put_in less x ys y ∙ or_from (eqb x y) (occurs ys y)
            (false_from_ne_true _
            (λ same. clash (eq-eqb y x (sym (eqb-true x y same))) new_parts.0)) h.0,
        IsDistinct-put_in less x ys h.1 new_parts.1,
      )
    ])

-- so a sorted list holds nothing twice where the list does not
pub IsDistinct-sorted : (less : ℕ → ℕ → Bool) (xs : List ℕ) → IsDistinct xs → IsDistinct (sorted less xs)
unfolding sorted
IsDistinct-sorted less [] h = tt
IsDistinct-sorted less (x ∷ xs) h = IsDistinct-put_in less x (sorted less xs) (IsDistinct-sorted less xs h.1)
    (occurs-sorted less xs x ∙ h.0)

-- nothing later is below what stands before it
abbrev pub Rises : (ℕ → ℕ → Bool) → List ℕ → Type 0
Rises less [] = Unit {0}
Rises less (x ∷ xs) = ((y : ℕ) → occurs xs y ≡ true → less y x ≡ false) × Rises less xs

module _ (less : ℕ → ℕ → Bool) (never : (x : ℕ) → less x x ≡ true → ⊥)
    (trans : (x y z : ℕ) → less x y ≡ true → less y z ≡ true → less x z ≡ true) where
  -- a number put in keeps the order
  Rises-put_in : (x : ℕ) (ys : List ℕ) → Rises less ys → Rises less (put_in less x ys)
  unfolding occurs put_in
  Rises-put_in x [] h = (λ y k. clash k refl, tt)
  Rises-put_in x (y ∷ ys) h =
      (elim (less x y) as (λ b. less x y ≡ b → Rises less
      (cond b (x ∷ y ∷ ys) (y ∷ put_in less x ys))) [
        | true ↦ λ lt. (
          λ z there. elim (or_cases (eqb y z) (occurs ys z) there) [
            | inl same ↦ false_from_ne_true _
                (λ k. never x (trans x y x lt
                (subst (λ (w : ℕ). less w x ≡ true) (sym (eqb-true y z same)) k)))
            | inr later ↦ false_from_ne_true _ (λ k. clash (trans z x y k lt) (h.0 z later))
          ],
          h,
        )
        | false ↦ λ ge. (
          λ z there. elim (or_cases (eqb x z) (occurs ys z)
              (sym (occurs-put_in less x ys z) ∙ there)) [
                | inl same ↦ subst (λ (w : ℕ). less w y ≡ false) (eqb-true x z same) ge
                | inr later ↦ h.0 z later
              ],
          Rises-put_in x ys h.1,
        )
      ]) refl

  -- so a sorted list rises
  pub Rises-sorted : (xs : List ℕ) → Rises less (sorted less xs)
  unfolding sorted
  Rises-sorted [] = tt
  Rises-sorted (x ∷ xs) = Rises-put_in x (sorted less xs) (Rises-sorted xs)

-- in a list that rises nothing is less than what stands before it
pub rises_at : (less : ℕ → ℕ → Bool) (xs : List ℕ) (x y : ℕ) → Rises less xs → occurs xs y ≡ true
    → occurs (until xs y) x ≡ true → less y x ≡ false
unfolding occurs until
rises_at less [] x y h there k = clash there refl
rises_at less (z ∷ zs) x y h there k =
    (elim (eqb z y) as (λ b. (b || occurs zs y) ≡ true
    → occurs (cond b [] (z ∷ until zs y)) x ≡ true → less y x ≡ false) [
      | true ↦ λ t j. clash j refl
      | false ↦ λ t j. elim (or_cases (eqb z x) (occurs (until zs y) x) j) [
        | inl same ↦ subst (λ (w : ℕ). less y w ≡ false) (eqb-true z x same) (h.0 y t)
        | inr later ↦ rises_at less zs x y h.1 t later
      ]
    ]) there k

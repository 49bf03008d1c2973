-- The order from top to bottom is made height by height.
use Rattle.std.proofs.Common.{◌≡◌, ◌⊎◌, ℕ, zero, suc, ◌+◌, ◌<◌, ◌≤◌, length, arith, Bool, true, inl, inr, eqb, List, [], ◌∷◌, ◌++◌, ap, append_assoc, refl, subst, sym, ◌∙◌}
use Rattle.std.proofs.lemmas.Bool.{eqb-true, eq-eqb, cases_lt}
use Rattle.msc_chart.specs.declared.event.ChartEvent.{ChartEvent}
use Rattle.msc_chart.specs.Lists.{occurs, Steps}
use Rattle.msc_import_laws.specs.Heights.{height, AreDrawnAt, IsBelow, IsDownward, IsOnlyOrder}
use Rattle.msc_import_laws.proofs.Descent.{all_above}
use Rattle.msc_chart.proofs.ListLemmas.{by_test, clash, occurs-left, occurs-right, Steps-append}
use Rattle.msc_import_laws.proofs.Words.{occurs_joined, occurs_one, occurs_itself}

-- a number below a bound that passes, or none does
find : (p : ℕ → Bool) (n : ℕ) → ((k : ℕ) × (k < n) × (p k ≡ true)) ⊎ ((k : ℕ) → k < n → p k ≡ true → ⊥)
find p zero = inr (λ k below h. omega (arith, below))
find p (suc n) =
    elim (find p n) [
      | inl found ↦ inl (found.0, omega (arith, found.1), found.2)
      | inr none ↦ by_test (p n)
          (λ passes. inl (n, omega arith, passes))
          (λ fails. inr (λ k below h. elim (cases_lt k n) [ inl lt ↦ none k lt h | inr ge ↦ let e : k ≡ n = omega (arith, ge, below) in clash (subst (λ (z : ℕ). p z ≡ true) e h) fails ]))
    ]

-- a bound of all heights
bound : List ℕ → ℕ
bound [] = 0
bound (h ∷ hs) = h + bound hs

under : (hs : List ℕ) (e : ℕ) → height hs e ≤ bound hs
unfolding bound
under [] e = omega arith
under (h ∷ hs) zero = omega arith
under (h ∷ hs) (suc e) = let r = under hs e in omega (arith, r)

-- where all have come none is below them
nothing_left : {heights : List ℕ} {events : List ChartEvent} (past : List ℕ) (x : ℕ) → IsBelow heights events past x → ((e : ℕ) → e < length events → occurs (past ++ []) e ≡ true) → ⊥
unfolding occurs
nothing_left {heights} {events} past x below whole =
    elim (occurs_joined past [] x (whole x below.event)) [
      | inl came ↦ let r = below.below x came in omega (arith, r)
      | inr none ↦ no x none
    ]
  where
    no : (x : ℕ) → occurs [] x ≡ true → ⊥
    no x h = cc

module _ (heights : List ℕ) (events : List ChartEvent) (at : AreDrawnAt heights events) where
  -- the events above this height, from top to bottom
  record Upper (h : ℕ) : Type 0 where
    order : List ℕ
    steps : Steps (IsBelow heights events) [] order
    each : (e : ℕ) → occurs order e ≡ true → height heights e < h
    all : (e : ℕ) → e < length events → height heights e < h → occurs order e ≡ true

  upper : (h : ℕ) → Upper h
  unfolding occurs
  upper zero = record { order = []; steps = tt; each = λ e k. cc; all = λ e known k. absurd (omega (arith, k)) }
  upper (suc h) =
      let u = upper h in
      elim (find (λ e. eqb (height heights e) h) (length events)) [
        | inr none ↦ record {
          order = u.order;
          steps = u.steps;
          each = λ e k. let r = u.each e k in omega (arith, r);
          all = λ e known k. elim (cases_lt (height heights e) h) [
            | inl lt ↦ u.all e known lt
            | inr ge ↦ absurd (none e known (eq-eqb (height heights e) h (omega (arith, ge, k))))
          ];
        }
        | inl found ↦
            let x : ℕ = found.0 in
            let level : height heights x ≡ h = eqb-true (height heights x) h found.2 in
            let last : IsBelow heights events u.order x = record { event = found.1; below = λ e k. let r = u.each e k in omega (arith, r, level) } in
            record {
              order = u.order ++ x ∷ [];
              steps = Steps-append (IsBelow heights events) [] u.order (x ∷ []) u.steps (last, tt);
              each = λ e k. elim (occurs_joined u.order (x ∷ []) e k) [
                | inl above ↦ let r = u.each e above in omega (arith, r)
                | inr same ↦ let r = ap (height heights) (occurs_one x e same) in omega (arith, r, level)
              ];
              all = λ e known k. elim (cases_lt (height heights e) h) [
                | inl lt ↦ occurs-left u.order (x ∷ []) e (u.all e known lt)
                | inr ge ↦ occurs-right u.order (x ∷ []) e (subst (λ (z : ℕ). occurs (x ∷ []) z ≡ true) (at.apart x e found.1 known (omega (arith, level, ge, k))) (occurs_itself x))
              ];
            }
      ]

  sorted : (order : List ℕ) × IsDownward heights events order
  sorted =
      let u = upper (bound heights + 1) in
      (u.order, record { steps = u.steps; whole = λ e known. let r = under heights e in u.all e known (omega (arith, r)) })

  -- no two orders go down from the same events
  one_order : (past xs ys : List ℕ) → Steps (IsBelow heights events) past xs → Steps (IsBelow heights events) past ys
      → ((e : ℕ) → e < length events → occurs (past ++ xs) e ≡ true) → ((e : ℕ) → e < length events → occurs (past ++ ys) e ≡ true) → xs ≡ ys
  one_order past [] [] h k whole other = refl
  one_order past [] (y ∷ ys) h k whole other = absurd (nothing_left past y k.0 whole)
  one_order past (x ∷ xs) [] h k whole other = absurd (nothing_left past x h.0 other)
  one_order past (x ∷ xs) (y ∷ ys) h k whole other =
      let not_above : height heights x < height heights y → ⊥ = λ lt. let r = h.0.below x (all_above heights events past y ys k other x h.0.event lt) in omega (arith, r) in
      let not_below : height heights y < height heights x → ⊥ = λ lt. let r = k.0.below y (all_above heights events past x xs h whole y k.0.event lt) in omega (arith, r) in
      let same : x ≡ y = at.apart x y h.0.event k.0.event (omega (arith, not_above, not_below)) in
      let rest = one_order (past ++ x ∷ []) xs ys h.1 (subst (λ (z : ℕ). Steps (IsBelow heights events) (past ++ z ∷ []) ys) (sym same) k.1)
      (λ e known. rw append_assoc (whole e known)) (λ e known. rw append_assoc (subst (λ (z : ℕ). occurs (past ++ z ∷ ys) e ≡ true) (sym same) (other e known))) in
      ap (λ (z : ℕ). z ∷ xs) same ∙ ap (λ l. y ∷ l) rest

  pub downward : (order : List ℕ) × IsOnlyOrder heights events order
  downward =
      let s = sorted in
      (s.0, (s.1, λ other down. one_order [] other s.0 down.steps s.1.steps down.whole s.1.whole))

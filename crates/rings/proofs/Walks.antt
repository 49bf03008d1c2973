-- A walk to the best number each time goes on until it is back at the start, and then it is the least ring.
use Rattle.std.proofs.Common.{◌≡◌, ◌≢◌, ◌⊎◌, ℕ, zero, suc, ◌+◌, ◌-◌, ◌<◌, ◌≤◌, Bool, IsTrue, List, [], ◌∷◌, ◌++◌, length, get_or, refl, sym, ap, subst, inl, inr, ◌∙◌, arith}
use Rattle.std.proofs.lemmas.Bool.{cases_lt}
use Rattle.std.proofs.lemmas.List.{get_or_append_left, get_or_push, length_push}
use Rattle.rings.specs.Rings.{IsRing, IsLeastRing, HasNoRing}
use Rattle.rings.specs.Searching.{never, IsAway}
use Rattle.rings.specs.Walking.{IsBest, IsNearest, HasNoNearest, HasLeft, IsWalk}

-- ---- the walk at its beginning, and one number more

pub walk_begins : (leads : ℕ → ℕ → Bool) (n : ℕ) (away : List ℕ) (start : ℕ) → start < n
    → IsWalk leads n away start never start (start ∷ [])
walk_begins leads n away start inside = record {
  some = omega arith;
  begins = refl;
  ends = refl;
  inside = λ k h. let z : k ≡ 0 = omega arith in subst (λ i. get_or (start ∷ []) i 0 < n) (sym z) inside;
  steps = λ k h. absurd (omega (arith, h));
  best = λ k h. absurd (omega (arith, h));
  once = λ i k lt h. absurd (omega (arith, lt, h));
  far = λ k pos h. absurd (omega (arith, pos, h));
  reached = λ k pos h. absurd (omega (arith, pos, h));
  left = inl (refl, refl);
}

module _ (leads : ℕ → ℕ → Bool) (n start bound last next : ℕ) (away walk : List ℕ) (w : IsWalk leads n away start bound last walk) (nearest : IsNearest leads n away last bound next) (elsewhere : next ≢ start) where
  abbrev on : List ℕ
  on = walk ++ next ∷ []

  abbrev d : ℕ
  d = get_or away next 0

  long : length on ≡ length walk + 1
  long = length_push walk next

  kept : (k : ℕ) → k < length walk → get_or on k 0 ≡ get_or walk k 0
  kept k h = get_or_append_left walk (next ∷ []) 0 k h

  at_end : (k : ℕ) → k ≡ length walk → get_or on k 0 ≡ next
  at_end k e = get_or_push walk next 0 k (sym e)

  -- a place of the longer walk
  cases_on : (k : ℕ) → k < length on → (k < length walk) ⊎ (k ≡ length walk)
  cases_on k h =
      elim (cases_lt k (length walk)) [ inl lt ↦ inl lt | inr ge ↦ inr (omega (arith, ge, h, long)) ]

  -- a step of the longer walk is one of the walk, or the last
  step_on : (P : ℕ → ℕ → Type 0) → ((k : ℕ) → k + 1 < length walk → P (get_or walk k 0) (get_or walk (k + 1) 0))
      → P last next → (k : ℕ) → k + 1 < length on → P (get_or on k 0) (get_or on (k + 1) 0)
  step_on P old new k h = elim (cases_on (k + 1) h) [
    | inl lt ↦
        let a = kept k (omega (arith, lt)) in let b = kept (k + 1) lt in
        subst (λ x. P x (get_or on (k + 1) 0)) (sym a) (subst (P (get_or walk k 0)) (sym b) (old k lt))
    | inr e ↦
        let k_is : k ≡ length walk - 1 = omega (arith, e) in
        let a : get_or on k 0 ≡ last = kept k (omega (arith, e)) ∙ ap (λ i. get_or walk i 0) k_is ∙ w.ends in
        subst (λ x. P x (get_or on (k + 1) 0)) (sym a) (subst (P last) (sym (at_end (k + 1) e)) new)
  ]

  -- the bound falls
  not_far : bound ≤ never
  not_far = elim w.left as (λ x. bound ≤ never) [
    | inl a ↦ omega (arith, a.1)
    | inr h ↦ let r = w.reached (length walk - 1) (omega (arith, h.more)) (omega (arith, h.more)) in let e = ap (λ i. get_or away i 0) w.ends in omega (arith, r, e, h.bound_is)
  ]

  left_on : HasLeft away start d next on
  left_on = record {
    more = omega (arith, long, w.some);
    bound_is = refl;
    elsewhere = elsewhere;
    nearer = elim w.left as (λ x. length on + d ≤ get_or away (get_or on 1 0) 0 + 2) [
      | inl a ↦ let e = ap (λ i. get_or away i 0) (at_end 1 (sym a.0)) in omega (arith, e, long, a.0)
      | inr h ↦ let e = ap (λ i. get_or away i 0) (kept 1 h.more) in omega (arith, e, long, h.nearer, nearest.below)
    ];
  }

  pub walk_on : IsWalk leads n away start d next on
  walk_on = record {
    some = omega (arith, long);
    begins = kept 0 w.some ∙ w.begins;
    ends = at_end (length on - 1) (omega (arith, long));
    inside = λ k h. elim (cases_on k h) [
      | inl lt ↦ omega (arith, kept k lt, w.inside k lt)
      | inr e ↦ omega (arith, at_end k e, nearest.inside)
    ];
    steps = step_on (λ x y. IsTrue (leads x y)) w.steps nearest.led;
    best = step_on (IsBest leads n away) w.best nearest.best;
    once = λ i k lt h. elim (cases_on k h) [
      | inl below ↦ λ e. w.once i k lt below (sym (kept i (omega (arith, lt, below))) ∙ e ∙ kept k below)
      | inr is ↦ λ e.
          let in_walk : i < length walk = omega (arith, lt, is) in
          let same : get_or walk i 0 ≡ next = sym (kept i in_walk) ∙ e ∙ at_end k is in
          elim (cases_lt 0 i) [
            | inl pos ↦ let f = w.far i pos in_walk in let g = ap (λ j. get_or away j 0) same in omega (arith, f, g, nearest.below)
            | inr none ↦ let z : i ≡ 0 = omega (arith, none) in elsewhere (sym same ∙ ap (λ j. get_or walk j 0) z ∙ w.begins)
          ]
    ];
    far = λ k pos h. elim (cases_on k h) [
      | inl lt ↦ let e = ap (λ j. get_or away j 0) (kept k lt) in omega (arith, e, w.far k pos lt, nearest.below)
      | inr is ↦ let e = ap (λ j. get_or away j 0) (at_end k is) in omega (arith, e)
    ];
    reached = λ k pos h. elim (cases_on k h) [
      | inl lt ↦ let e = ap (λ j. get_or away j 0) (kept k lt) in omega (arith, e, w.reached k pos lt)
      | inr is ↦ let e = ap (λ j. get_or away j 0) (at_end k is) in omega (arith, e, nearest.below, not_far)
    ];
    left = inr left_on;
  }

-- ---- other rings

module _ (leads : ℕ → ℕ → Bool) (n start : ℕ) (away : List ℕ) (a : IsAway leads n start away) (other : List ℕ) (o : IsRing leads n start other) where
  abbrev m : ℕ
  m = length other

  start_in : start < n
  start_in = omega (arith, o.inside 0 o.some, o.begins)

  -- number k of another ring was reached, and is at most as far away as the ring goes on
  left_of : (j k : ℕ) → k + j + 1 ≡ m → (get_or away (get_or other k 0) 0 ≤ j + 1) × (get_or away (get_or other k 0) 0 < never)
  left_of zero k e =
      let last : k ≡ m - 1 = omega (arith, e) in
      let led = subst (λ i. IsTrue (leads (get_or other i 0) start)) (sym last) o.closes in
      let z = a.nearing.zero_at in
      let r = a.closer (get_or other k 0) start (o.inside k (omega (arith, e))) start_in led (omega (arith, z)) in
      (omega (arith, r.0, z), r.1)
  left_of (suc j) k e =
      let h = left_of j (k + 1) (omega (arith, e)) in
      let r = a.closer (get_or other k 0) (get_or other (k + 1) 0) (o.inside k (omega (arith, e))) (o.inside (k + 1) (omega (arith, e))) (o.steps k (omega (arith, e))) h.1 in
      (omega (arith, r.0, h.0), r.1)

  -- so the second number of another ring is, or the start where it has no other
  second : (y : ℕ) × (y < n) × IsTrue (leads start y) × (get_or away y 0 + 1 ≤ m) × (get_or away y 0 < never)
  second = elim (cases_lt 1 m) [
    | inl more ↦
        let h = left_of (m - 2) 1 (omega (arith, more)) in
        (get_or other 1 0, o.inside 1 more, subst (λ i. IsTrue (leads i (get_or other 1 0))) o.begins (o.steps 0 more), omega (arith, h.0, more), h.1)
    | inr one ↦
        let k : m - 1 ≡ 0 = omega (arith, one) in
        let z = a.nearing.zero_at in
        (start, start_in, subst (λ i. IsTrue (leads i start)) (ap (λ i. get_or other i 0) k ∙ o.begins) o.closes, omega (arith, z, o.some), omega (arith, z))
  ]

module _ (leads : ℕ → ℕ → Bool) (n start bound last : ℕ) (away walk : List ℕ) (a : IsAway leads n start away) (w : IsWalk leads n away start bound last walk) where
  -- a walk that does not go on shows that there is no ring
  pub no_ring : HasNoNearest leads n away last bound → HasNoRing leads n start
  no_ring none other o = elim w.left [
    | inl h ↦
        let s = second leads n start away a other o in
        let k : length walk - 1 ≡ 0 = omega (arith, h.0) in
        let at_start : last ≡ start = sym w.ends ∙ ap (λ (i : ℕ). get_or walk i 0) k ∙ w.begins in
        let far = none s.0 s.1 (subst (λ i. IsTrue (leads i s.0)) (sym at_start) s.2) in
        omega (arith, far, s.4, h.1)
    | inr h ↦
        let r = w.reached (length walk - 1) (omega (arith, h.more)) (omega (arith, h.more)) in
        let e = ap (λ i. get_or away i 0) w.ends in
        let in_n = w.inside (length walk - 1) (omega (arith, h.more)) in
        let y = a.nearing.nearer last (omega (arith, in_n, w.ends)) h.elsewhere (omega (arith, r, e)) in
        let far = none y.0 y.1 y.2 in
        omega (arith, far, y.3, h.bound_is)
  ]

  module _ (nearest : IsNearest leads n away last bound start) where
    is_ring : IsRing leads n start walk
    is_ring = record {
      some = w.some;
      begins = w.begins;
      inside = w.inside;
      steps = w.steps;
      closes = subst (λ i. IsTrue (leads i start)) (sym w.ends) nearest.led;
      once = w.once;
    }

    -- how many numbers the walk has behind the start is no more than any number is away that the start
    -- leads to
    few : (z : ℕ) → z < n → IsTrue (leads start z) → length walk ≤ get_or away z 0 + 1
    few z z_in led = elim w.left [
      | inl h ↦ omega (arith, h.0)
      | inr h ↦
          let led_0 = subst (λ i. IsTrue (leads i z)) (sym w.begins) led in
          let b = (w.best 0 h.more).nearest z z_in led_0 in
          let in_n = w.inside (length walk - 1) (omega (arith, h.more)) in
          let p = a.nearing.positive last (omega (arith, in_n, w.ends)) h.elsewhere in
          omega (arith, b, p, h.nearer, h.bound_is)
    ]

    shortest : (other : List ℕ) → IsRing leads n start other → length walk ≤ length other
    shortest other o =
        let s = second leads n start away a other o in
        omega (arith, few s.0 s.1 s.2, s.3)

    -- number k of the walk is as far away as the walk goes on, or farther
    far_enough : (k : ℕ) → k + 1 < length walk → length walk ≤ get_or away (get_or walk (k + 1) 0) 0 + (k + 1)
    far_enough zero h =
        let led = subst (λ i. IsTrue (leads i (get_or walk 1 0))) w.begins (w.steps 0 h) in
        omega (arith, few (get_or walk 1 0) (w.inside 1 h) led)
    far_enough (suc k) h =
        let before = far_enough k (omega (arith, h)) in
        let next : suc k + 1 ≡ k + 1 + 1 = omega arith in
        let e = ap (λ (i : ℕ). get_or away (get_or walk i 0) 0) next in
        let r = a.closer (get_or walk (k + 1) 0) (get_or walk (k + 1 + 1) 0) (w.inside (k + 1) (omega (arith, h))) (w.inside (k + 1 + 1) (omega (arith, h))) (w.steps (k + 1) (omega (arith, h))) (w.reached (k + 1 + 1) (omega arith) (omega (arith, h))) in
        omega (arith, before, r.0, e)

    least : (other : List ℕ) → IsRing leads n start other → length other ≡ length walk
        → (k : ℕ) → k < length walk
        → ((i : ℕ) → i < k → get_or other i 0 ≡ get_or walk i 0)
        → get_or walk k 0 ≤ get_or other k 0
    least other o same zero h agree = omega (arith, w.begins, o.begins)
    least other o same (suc k) h agree =
        let next : suc k ≡ k + 1 = omega arith in
        let z = get_or other (k + 1) 0 in
        let in_walk : k + 1 < length walk = omega (arith, h) in
        let in_other : k + 1 < length other = omega (arith, h, same) in
        let led = subst (λ (i : ℕ). IsTrue (leads i z)) (agree k (omega arith)) (o.steps k in_other) in
        let b = w.best k in_walk in
        let near = b.nearest z (o.inside (k + 1) in_other) led in
        let left = left_of leads n start away a other o (length other - (k + 2)) (k + 1) (omega (arith, in_other)) in
        let far = far_enough k in_walk in
        let t = b.least z (o.inside (k + 1) in_other) led (omega (arith, near, left.0, far, same, in_other)) in
        let e = ap (λ (i : ℕ). get_or walk i 0) next in
        let f = ap (λ (i : ℕ). get_or other i 0) next in
        omega (arith, t, e, f)

    pub least_ring : IsLeastRing leads n start walk
    least_ring = record { is_ring = is_ring; shortest = shortest; least = least }

-- One number more is reached by the search.
use Rattle.std.proofs.Common.{◌≡◌, ◌≢◌, ℕ, ◌+◌, ◌<◌, ◌≤◌, ◌==◌, Bool, cond, IsTrue, List, [], ◌∷◌, ◌++◌, length, get_or, set, refl, sym, ap, subst, inl, inr, ◌⊎◌, ◌∙◌, arith}
use Rattle.std.proofs.lemmas.Bool.{cases_eq, cases_lt}
use Rattle.std.proofs.lemmas.Bool.Decides.{eqb_tells}
use Rattle.std.proofs.lemmas.List.{get_or-set_same, get_or-set_other, get_or_append_left, get_or_push, length_push, length-set}
use Rattle.std.proofs.lemmas.List.Sums.{sum_by-set, get_or-le-sum_by}
use Rattle.rings.specs.Searching.{never, IsReachedBy, IsNearing, IsSearch, IsSearchTo}

module _ (leads : ℕ → ℕ → Bool) (n start at x : ℕ) (away queue : List ℕ) (few : n ≤ never) (to : IsSearchTo leads n start at x away queue) (inside : x < n) (unmarked : get_or away x 0 ≡ never) (led : IsTrue (leads x (get_or queue at 0))) where
  abbrev s : IsSearch leads n start at away queue
  s = to.search

  -- the number that x leads to, how far x is away, and what there is then
  abbrev pub y : ℕ
  y = get_or queue at 0

  abbrev pub far : ℕ
  far = get_or away y 0 + 1

  abbrev pub new : List ℕ
  new = set away x far

  abbrev pub more : List ℕ
  more = queue ++ x ∷ []

  abbrev is_never : ℕ → ℕ
  is_never a = cond (a == never) 1 0

  at_x : get_or new x 0 ≡ far
  at_x = get_or-set_same away x far 0 (omega (arith, s.nearing.each))

  -- what was reached is kept
  apart : (z : ℕ) → get_or away z 0 < never → z ≢ x
  apart z h e = let k : get_or away z 0 ≡ never = ap (λ i. get_or away i 0) e ∙ unmarked in omega (arith, h, k)

  pub kept : (z : ℕ) → get_or away z 0 < never → get_or new z 0 ≡ get_or away z 0
  kept z h = get_or-set_other away x z far 0 (apart z h)

  pub queue_kept : (k : ℕ) → k < length queue → get_or more k 0 ≡ get_or queue k 0
  queue_kept k h = get_or_append_left queue (x ∷ []) 0 k h

  queue_last : get_or more (length queue) 0 ≡ x
  queue_last = get_or_push queue x 0 (length queue) refl

  long : length more ≡ length queue + 1
  long = length_push queue x

  -- there is room for x in the queue, and it is not too far away
  room : length queue < n
  room =
      let one : is_never (get_or away x 0) ≡ 1 = rw unmarked refl in
      let some = get_or-le-sum_by is_never away x 0 (omega (arith, s.nearing.each)) in
      omega (arith, s.count, one, some)

  fits : far < never
  fits = let early = s.early at to.«open» in omega (arith, early, room, few, to.«open»)

  -- what was reached by a number is reached by it
  reached_kept : (z w : ℕ) → get_or away w 0 < never → IsReachedBy away z w → IsReachedBy new z w
  reached_kept z w marked h =
      let a = kept w marked in let b = kept z h.1 in
      (omega (arith, a, b, h.0), omega (arith, b, h.1))

  nearing_on : IsNearing leads n start new
  nearing_on = record {
    each = length-set away x far ∙ s.nearing.each;
    zero_at = let h : get_or away start 0 < never = omega (arith, s.nearing.zero_at) in kept start h ∙ s.nearing.zero_at;
    small = λ z z_in. elim (cases_eq z x) [
      | inl e ↦ let h : get_or new z 0 ≡ far = ap (λ i. get_or new i 0) e ∙ at_x in omega (arith, h, fits)
      | inr ne ↦ omega (arith, get_or-set_other away x z far 0 ne, s.nearing.small z z_in)
    ];
    positive = λ z z_in other. elim (cases_eq z x) [
      | inl e ↦ let h : get_or new z 0 ≡ far = ap (λ i. get_or new i 0) e ∙ at_x in omega (arith, h)
      | inr ne ↦
          let h = get_or-set_other away x z far 0 ne in
          omega (arith, h, s.nearing.positive z z_in other)
    ];
    nearer = λ z z_in other reached. elim (cases_eq z x) [
      | inl e ↦
          let h : get_or new z 0 ≡ far = ap (λ i. get_or new i 0) e ∙ at_x in
          let m = s.marked at to.«open» in
          let k = kept y m in
          (y, s.inside at to.«open», subst (λ i. IsTrue (leads i y)) (sym e) led, omega (arith, h, k))
      | inr ne ↦
          let h = get_or-set_other away x z far 0 ne in
          let w = s.nearing.nearer z z_in other (omega (arith, h, reached)) in
          let k = kept w.0 (omega (arith, w.3, h, reached)) in
          (w.0, w.1, w.2, omega (arith, w.3, h, k))
    ];
  }

  -- a place of the longer queue is one of the queue, or that of x
  cases_more : (k : ℕ) → k < length more → (k < length queue) ⊎ (k ≡ length queue)
  cases_more k h =
      elim (cases_lt k (length queue)) [ inl lt ↦ inl lt | inr ge ↦ inr (omega (arith, ge, h, long)) ]

  -- how far away the numbers of the queue are then
  pub far_kept : (k : ℕ) → k < length queue → get_or new (get_or more k 0) 0 ≡ get_or away (get_or queue k 0) 0
  far_kept k h = ap (λ i. get_or new i 0) (queue_kept k h) ∙ kept (get_or queue k 0) (s.marked k h)

  far_last : (k : ℕ) → k ≡ length queue → get_or new (get_or more k 0) 0 ≡ far
  far_last k e = ap (λ i. get_or new i 0) (ap (λ i. get_or more i 0) e ∙ queue_last) ∙ at_x

  search_on : IsSearch leads n start at new more
  search_on = record {
    nearing = nearing_on;
    inside = λ k h. elim (cases_more k h) [
      | inl lt ↦ omega (arith, queue_kept k lt, s.inside k lt)
      | inr e ↦ let l : get_or more k 0 ≡ x = ap (λ i. get_or more i 0) e ∙ queue_last in omega (arith, l, inside)
    ];
    marked = λ k h. elim (cases_more k h) [
      | inl lt ↦ omega (arith, far_kept k lt, s.marked k lt)
      | inr e ↦ omega (arith, far_last k e, fits)
    ];
    queued = λ z z_in reached. elim (cases_eq z x) [
      | inl e ↦ (length queue, omega (arith, long), queue_last ∙ sym e)
      | inr ne ↦
          let h = get_or-set_other away x z far 0 ne in
          let w = s.queued z z_in (omega (arith, h, reached)) in
          (w.0, omega (arith, long, w.1), queue_kept w.0 w.1 ∙ w.2)
    ];
    ordered = λ i k le h. elim (cases_more k h) [
      | inl lt ↦ omega (arith, far_kept k lt, far_kept i (omega (arith, le, lt)), s.ordered i k le lt)
      | inr e ↦ elim (cases_more i (omega (arith, le, h))) [
        | inl lt ↦ omega (arith, far_last k e, far_kept i lt, s.near i to.«open» lt)
        | inr d ↦ omega (arith, far_last k e, far_last i d)
      ]
    ];
    near = λ k open_more h. elim (cases_more k h) [
      | inl lt ↦ omega (arith, far_kept k lt, far_kept at to.«open», s.near k to.«open» lt)
      | inr e ↦ omega (arith, far_last k e, far_kept at to.«open»)
    ];
    early = λ k h. elim (cases_more k h) [
      | inl lt ↦ omega (arith, far_kept k lt, s.early k lt)
      | inr e ↦ omega (arith, far_last k e, s.early at to.«open», to.«open», e)
    ];
    count =
        let one : is_never (get_or away x 0) ≡ 1 = rw unmarked refl in
        let none : is_never far ≡ 0 = elim (eqb_tells far never) [ inl e ↦ absurd (omega (arith, e.1, fits)) | inr e ↦ rw e.0 refl ] in
        let c = sum_by-set is_never away x far 0 (omega (arith, s.nearing.each)) in
        omega (arith, s.count, c, one, none, long);
    done = λ k z lt h z_in leads_z.
        let in_queue : k < length queue = omega (arith, lt, to.«open») in
        let e = queue_kept k in_queue in
        let r = s.done k z lt in_queue z_in (subst (λ i. IsTrue (leads z i)) e leads_z) in
        subst (IsReachedBy new z) (sym e) (reached_kept z (get_or queue k 0) (s.marked k in_queue) r);
  }

  -- x was reached as well
  pub search_more : IsSearchTo leads n start at (x + 1) new more
  search_more = record {
    search = search_on;
    «open» = omega (arith, long, to.«open»);
    so_far = λ z lt leads_z.
        let e = queue_kept at to.«open» in let m = s.marked at to.«open» in
        subst (IsReachedBy new z) (sym e) (elim (cases_lt z x) [
          | inl below ↦ reached_kept z y m (to.so_far z below (subst (λ i. IsTrue (leads z i)) e leads_z))
          | inr above ↦
              let is : z ≡ x = omega (arith, above, lt) in
              let h : get_or new z 0 ≡ far = ap (λ i. get_or new i 0) is ∙ at_x in
              (omega (arith, h, kept y m), omega (arith, h, fits))
        ]);
  }

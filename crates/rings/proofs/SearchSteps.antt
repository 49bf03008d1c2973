-- How the search begins, goes on and ends.
use Rattle.std.proofs.Common.{◌≡◌, ◌≢◌, ℕ, zero, suc, ◌+◌, ◌*◌, ◌<◌, ◌≤◌, ◌==◌, Bool, cond, IsTrue, List, [], ◌∷◌, ◌++◌, length, get_or, set, replicate, refl, sym, ap, subst, inl, inr, ◌∙◌, arith}
use Rattle.std.specs.List.{count_by}
use Rattle.std.proofs.lemmas.Bool.{cases_eq, cases_lt}
use Rattle.std.proofs.lemmas.List.{get_or-set_same, get_or-set_other, get_or-replicate, length-replicate, length-set}
use Rattle.std.proofs.lemmas.List.Sums.{sum_by-set}
use Rattle.std.proofs.lemmas.List.Folds.{sum_by-replicate}
use Rattle.rings.specs.Searching.{never, IsReachedBy, IsNearing, IsAway, IsSearch, IsSearchTo, IsReaching}
use Rattle.rings.proofs.Searching.{queue_kept, kept, search_more}

-- ---- at the beginning the start alone was reached

module _ (leads : ℕ → ℕ → Bool) (n start : ℕ) (inside : start < n) where
  abbrev pub blank : List ℕ
  blank = set (replicate n never) start 0

  abbrev pub one : List ℕ
  one = start ∷ []

  abbrev is_never : ℕ → ℕ
  is_never a = cond (a == never) 1 0

  long : length (replicate n never) ≡ n
  long = length-replicate n never

  at_start : get_or blank start 0 ≡ 0
  at_start = get_or-set_same (replicate n never) start 0 0 (omega (arith, long, inside))

  elsewhere : (x : ℕ) → x < n → x ≢ start → get_or blank x 0 ≡ never
  elsewhere x x_in ne =
      get_or-set_other (replicate n never) start x 0 0 ne ∙ get_or-replicate n x never 0 x_in

  -- the only place of the queue
  only : (k : ℕ) → k < length one → get_or one k 0 ≡ start
  only zero h = refl
  only (suc k) h = absurd (omega (arith, h))

  at_only : (k : ℕ) → k < length one → get_or blank (get_or one k 0) 0 ≡ 0
  at_only k h = ap (λ i. get_or blank i 0) (only k h) ∙ at_start

  nearing_begins : IsNearing leads n start blank
  nearing_begins = record {
    each = length-set (replicate n never) start 0 ∙ long;
    zero_at = at_start;
    small = λ x x_in. elim (cases_eq x start) [
      | inl e ↦ let h : get_or blank x 0 ≡ 0 = ap (λ i. get_or blank i 0) e ∙ at_start in omega (arith, h)
      | inr ne ↦ omega (arith, elsewhere x x_in ne)
    ];
    positive = λ x x_in ne. omega (arith, elsewhere x x_in ne);
    nearer = λ x x_in ne reached. absurd (omega (arith, elsewhere x x_in ne, reached));
  }

  pub search_begins : IsSearch leads n start 0 blank one
  search_begins = record {
    nearing = nearing_begins;
    inside = λ k h. omega (arith, only k h, inside);
    marked = λ k h. omega (arith, at_only k h);
    queued = λ x x_in reached. elim (cases_eq x start) [
      | inl e ↦ (0, omega arith, sym e)
      | inr ne ↦ absurd (omega (arith, elsewhere x x_in ne, reached))
    ];
    ordered = λ i k le h. omega (arith, at_only i (omega (arith, le, h)), at_only k h);
    near = λ k here h. omega (arith, at_only k h);
    early = λ k h. omega (arith, at_only k h);
    count =
        let a = sum_by-set is_never (replicate n never) start 0 0 (omega (arith, long, inside)) in
        let b : is_never (get_or (replicate n never) start 0) ≡ 1 = rw (get_or-replicate n start never 0 inside) refl in
        let c : count_by (λ x. x == never) (replicate n never) ≡ n * 1 = sum_by-replicate is_never n never in
        omega (arith, a, b, c);
    done = λ k x lt h x_in led. absurd (omega (arith, lt));
  }

module _ (leads : ℕ → ℕ → Bool) (n start at : ℕ) (away queue : List ℕ) where
  -- before the first number, where place `at` is one of the queue
  pub search_opens : IsSearch leads n start at away queue → at < length queue
      → IsSearchTo leads n start at 0 away queue
  search_opens s here =
      record { search = s; «open» = here; so_far = λ z lt led. absurd (omega (arith, lt)) }

  -- a number that does not lead there, or was reached
  pub search_passes : (x : ℕ) → IsSearchTo leads n start at x away queue → x < n
      → (IsTrue (leads x (get_or queue at 0)) → get_or away x 0 < never)
      → IsSearchTo leads n start at (x + 1) away queue
  search_passes x to x_in reached = record {
    search = to.search;
    «open» = to.«open»;
    so_far = λ z lt led. elim (cases_lt z x) [
      | inl below ↦ to.so_far z below led
      | inr above ↦
          let is : z ≡ x = omega (arith, above, lt) in
          let led_x = subst (λ i. IsTrue (leads i (get_or queue at 0))) is led in
          let r = reached led_x in
          let w = to.search.queued x x_in r in
          let h = to.search.near w.0 to.«open» w.1 in
          let e = ap (λ i. get_or away i 0) w.2 in
          let same = ap (λ i. get_or away i 0) is in
          (omega (arith, h, e, same), omega (arith, r, same))
    ];
  }

  -- behind the last number
  pub search_goes_on : IsSearchTo leads n start at n away queue
      → IsSearch leads n start (at + 1) away queue
  search_goes_on to =
      let s = to.search in
      record {
        nearing = s.nearing;
        inside = s.inside;
        marked = s.marked;
        queued = s.queued;
        ordered = s.ordered;
        near = λ k here h. let a = s.near k to.«open» h in let b = s.ordered at (at + 1) (omega arith) here in omega (arith, a, b);
        early = s.early;
        count = s.count;
        done = λ k x lt h x_in led. elim (cases_lt k at) [
          | inl below ↦ s.done k x below h x_in led
          | inr above ↦
              let is : at ≡ k = omega (arith, above, lt) in
              subst (λ i. IsReachedBy away x (get_or queue i 0)) is (to.so_far x x_in (subst (λ i. IsTrue (leads x (get_or queue i 0))) (sym is) led))
        ];
      }

  -- behind the last place of the queue
  pub search_ends : IsSearch leads n start at away queue → length queue ≤ at
      → IsAway leads n start away
  search_ends s past = record {
    nearing = s.nearing;
    closer = λ x y x_in y_in led reached.
        let w = s.queued y y_in reached in
        subst (IsReachedBy away x) w.2 (s.done w.0 x (omega (arith, w.1, past)) w.1 x_in (subst (λ i. IsTrue (leads x i)) (sym w.2) led));
  }

  -- a number that was reached now
  pub search_reaches : (x y farther : ℕ) → n ≤ never
      → IsReaching leads n start at x y farther away queue → x < n → get_or away x 0 ≡ never
      → IsTrue (leads x y)
      → IsReaching leads n start at (x + 1) y farther (set away x farther) (queue ++ x ∷ [])
  search_reaches x y farther few r x_in unmarked led_y =
      let led = subst (λ i. IsTrue (leads x i)) r.y_is led_y in
      let m = r.to.search.marked at r.to.«open» in
      let same : farther ≡ get_or away (get_or queue at 0) 0 + 1 = r.farther_is ∙ ap (λ i. get_or away i 0 + 1) r.y_is in
      let new = set away x farther in
      let more = search_more leads n start at x away queue few r.to x_in unmarked led in
      let k = queue_kept leads n start at x away queue few r.to x_in unmarked led at r.to.«open» in
      let f = kept leads n start at x away queue few r.to x_in unmarked led (get_or queue at 0) m in
      record {
        to = subst (λ a. IsSearchTo leads n start at (x + 1) (set away x a) (queue ++ x ∷ [])) (sym same) more;
        y_is = r.y_is ∙ sym k;
        farther_is = subst (λ i. farther ≡ get_or new i 0 + 1) (sym r.y_is)
            (subst (λ a. farther ≡ get_or (set away x a) (get_or queue at 0) 0 + 1) (sym same) (same ∙ ap (λ a. a + 1) (sym f)));
      }

  -- a number that was not
  pub search_leaves : (x y farther : ℕ) → IsReaching leads n start at x y farther away queue → x < n
      → (IsTrue (leads x y) → get_or away x 0 < never)
      → IsReaching leads n start at (x + 1) y farther away queue
  search_leaves x y farther r x_in reached = record {
    to = search_passes x r.to x_in (λ led. reached (subst (λ i. IsTrue (leads x i)) (sym r.y_is) led));
    y_is = r.y_is;
    farther_is = r.farther_is;
  }

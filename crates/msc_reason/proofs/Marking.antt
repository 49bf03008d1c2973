-- How marks are made, and what they tell of the races of a chart.
use Rattle.std.proofs.Common.{set, ◌≡◌, ◌≢◌, ℕ, ◌+◌, ◌<◌, ◌≤◌, ◌⊎◌, min, Bool, true, false, cond, inl, inr, List, length, get_or, eqb, refl, sym, ap, ◌∙◌, subst, arith}
use Rattle.std.specs.List.{list_any, All}
use Rattle.std.proofs.Math.Nat.{min-le_left, min-le_right}
use Rattle.std.proofs.lemmas.Option.{get_or_from_slice_get, slice_get_within}
use Rattle.std.proofs.lemmas.Bool.{cases_lt, cases_eq, eqb-true, eq-eqb, false_from_ne_true}
use Rattle.std.proofs.lemmas.List.{get_or-set_same, get_or-set_other}
use Rattle.msc_chart.specs.Lists.{Occurs}
use Rattle.msc_chart.proofs.ListLemmas.{by_test}
use Rattle.msc_race.specs.Wired.{EnforcedChart}
use Rattle.msc_reason.proofs.Counted.{counted_in, counted_parts, counting_in, counting_parts}
use Rattle.msc_reason.proofs.Filtered.{any_in, any_parts}
use Rattle.msc_reason.proofs.Within.{Within, within_from, within_parts}
use Rattle.msc_reason.specs.Counting.{counting, is_within}
use Rattle.msc_reason.specs.Marked.{counted_from, is_counted, cause_in, IsLeastSecond}
use Rattle.msc_reason.specs.declared.left_out.LeftOut.{LeftOut}

-- the last k numbers have the least of what stood there and behind, the others what they had
pub record AreSunk (old now : List ℕ) (size k : ℕ) : Type 0 where
  pub none_below : (s x : ℕ) → size ≤ s + k → s ≤ x → x < size → get_or now s 0 ≤ get_or old x 0
  pub itself : (s : ℕ) → size ≤ s + k → s < size → (x : ℕ) × (s ≤ x) × (x < size) × (get_or now s 0 ≡ get_or old x 0)
  pub rest : (s : ℕ) → s + k < size → get_or now s 0 ≡ get_or old s 0

-- and so it is of one more
pub sunk_more : (old now : List ℕ) (size k at m : ℕ) → length now ≡ size → 1 ≤ k → at + 1 + k ≡ size
    → m ≡ min (get_or now at 0) (get_or now (at + 1) 0) → AreSunk old now size k → AreSunk old (set now at m) size (k + 1)
sunk_more old now size k at m long some is least sunk =
    let here : get_or (set now at m) at 0 ≡ m = get_or-set_same now at m 0 (omega (arith, long, is)) in
    let own : get_or now at 0 ≡ get_or old at 0 = sunk.rest at (omega (arith, is)) in
    let one : m ≤ get_or now at 0 = rw least (min-le_left (get_or now at 0) (get_or now (at + 1) 0)) in
    let two : m ≤ get_or now (at + 1) 0 = rw least (min-le_right (get_or now at 0) (get_or now (at + 1) 0)) in
    record {
      none_below = λ s x low le inside. elim (cases_eq s at) [
        | inl same ↦ rw (same, here) (elim (cases_lt at x) [
          | inl past ↦
              let behind = sunk.none_below (at + 1) x (omega (arith, is)) (omega (arith, past)) inside in
              omega (arith, two, behind)
          | inr upto ↦
              let equal : x ≡ at = omega (arith, le, same, upto) in
              rw equal (omega (arith, one, own))
        ])
        | inr other ↦ rw (get_or-set_other now at s m 0 other) (sunk.none_below s x (omega (arith, low, other, is, le, inside)) le inside)
      ];
      itself = λ s low inside. elim (cases_eq s at) [
        | inl same ↦ rw (same, here) (elim (cases_lt (get_or now (at + 1) 0) (get_or now at 0)) [
          | inl less ↦
              let behind = sunk.itself (at + 1) (omega (arith, is)) (omega (arith, is, some)) in
              let value : m ≡ get_or now (at + 1) 0 = omega (arith, least, less) in
              (behind.0, omega (arith, behind.1), behind.2, value ∙ behind.3)
          | inr more ↦
              let value : m ≡ get_or now at 0 = omega (arith, least, more) in
              (at, omega arith, omega (arith, is), value ∙ own)
        ])
        | inr other ↦ rw (get_or-set_other now at s m 0 other) (sunk.itself s (omega (arith, low, other, is, inside)) inside)
      ];
      rest = λ s more.
          let other : s ≢ at = λ same. absurd (omega (arith, same, more, is)) in
          rw (get_or-set_other now at s m 0 other) (sunk.rest s (omega (arith, more)));
    }

-- what holds of all holds of what stands somewhere
pub all_at : {X : Type 0} (P : X → Type 0) (xs : List X) (x : X) → Occurs xs x → All P xs → P x
all_at P xs x (j, at) all =
    let inside = slice_get_within xs j x at in
    subst P (get_or_from_slice_get xs j x x at) (all j x inside)

module _ (e : EnforcedChart) (allowed : LeftOut) where
  -- the least second event of an event's races that count
  pub is_least_second : (events x y : ℕ) (pairs : List (ℕ × ℕ)) → pairs ≡ counted_from e allowed x → All (λ p. y ≤ p.1) pairs
      → (y ≡ events) ⊎ ((z : ℕ) × Occurs pairs (z, y)) → IsLeastSecond (is_counted e allowed) events x y
  is_least_second events x y pairs are below itself = record {
    none_below = λ z its. all_at (λ p. y ≤ p.1) pairs (x, z)
        (subst (λ (l : List (ℕ × ℕ)). Occurs l (x, z)) (sym are) (counted_in e allowed x z its)) below;
    itself = λ known. elim itself [
      | inl none ↦ absurd (omega (arith, none, known))
      | inr one ↦
          let its = counted_parts e allowed x one.0 y (subst (λ (l : List (ℕ × ℕ)). Occurs l (one.0, y)) are one.1) in
          subst (λ (n : ℕ). is_counted e allowed n y ≡ true) its.0 its.1
    ];
  }

  -- whether one of these ends in an event
  abbrev pub ends_in : ℕ → ℕ × ℕ → Bool
  ends_in y p = eqb p.1 y

  -- the last event with which a race ends in another, of one event more
  pub end_more : (k : ℕ) (old new : List ℕ) (pairs : List (ℕ × ℕ)) → pairs ≡ counted_from e allowed k
      → ((y : ℕ) → get_or new y 0 ≡ cond (list_any (ends_in y) pairs) k (get_or old y 0))
      → ((x y : ℕ) → x < k → is_counted e allowed x y ≡ true → (x ≤ get_or old y 0) × (is_counted e allowed (get_or old y 0) y ≡ true))
      → (x y : ℕ) → x < k + 1 → is_counted e allowed x y ≡ true → (x ≤ get_or new y 0) × (is_counted e allowed (get_or new y 0) y ≡ true)
  end_more k old new pairs are marks before x y less its =
      by_test (list_any (ends_in y) pairs)
      (λ some.
      let value : get_or new y 0 ≡ k = marks y ∙ ap (λ (b : Bool). cond b k (get_or old y 0)) some in
      let one = any_parts (ends_in y) pairs some in
      let its = counted_parts e allowed k one.0.0 one.0.1 (subst (λ (l : List (ℕ × ℕ)). Occurs l one.0) are one.1) in
      rw value (
        omega (arith, less),
        subst (λ (n : ℕ). is_counted e allowed k n ≡ true) (eqb-true one.0.1 y one.2)
            (subst (λ (n : ℕ). is_counted e allowed n one.0.1 ≡ true) its.0 its.1),
      ))
      (λ none.
      let value : get_or new y 0 ≡ get_or old y 0 = marks y ∙ ap (λ (b : Bool). cond b k (get_or old y 0)) none in
      rw value (before x y (earlier none) its))
    where
      -- where none of an event's races ends there, the race is one of an earlier event
      earlier : list_any (ends_in y) pairs ≡ false → x < k
      earlier none = elim (cases_eq x k) [
        | inl same ↦
            let there = subst (λ (l : List (ℕ × ℕ)). Occurs l (k, y)) (sym are) (counted_in e allowed k y (subst (λ (n : ℕ). is_counted e allowed n y ≡ true) same its)) in
            let some = any_in (ends_in y) pairs (k, y) there (eq-eqb y y refl) in
            absurd (let clash = sym some ∙ none in cc)
        | inr other ↦ omega (arith, other, less)
      ]

  -- another pair within one is told by one that counts
  pub some_within : (events_p : ℕ × ℕ) (q : ℕ × ℕ) → is_counted e allowed q.0 q.1 ≡ true → Within e.chart.events events_p q
      → list_any (is_within e.chart.events events_p) (counting e allowed (cause_in e)) ≡ true
  some_within p q its within =
      any_in (is_within e.chart.events p) _ q (counting_in e allowed q.0 q.1 its) (within_from e.chart.events p q within)

  -- and where there is none, none is told
  pub none_within : (p : ℕ × ℕ) → ((q : ℕ × ℕ) → is_counted e allowed q.0 q.1 ≡ true → Within e.chart.events p q → ⊥)
      → list_any (is_within e.chart.events p) (counting e allowed (cause_in e)) ≡ false
  none_within p none = false_from_ne_true _ (λ some.
      let q = any_parts (is_within e.chart.events p) (counting e allowed (cause_in e)) some in
      none q.0 (counting_parts e allowed q.0.0 q.0.1 q.1) (within_parts e.chart.events p q.0 q.2))

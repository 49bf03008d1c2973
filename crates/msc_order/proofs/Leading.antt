-- Rows that are made in the reverse of a linear order hold what lines and messages lead to.
use Rattle.std.proofs.Common.{◌≡◌, ◌≢◌, ℕ, ◌+◌, ◌-◌, ◌<◌, ◌⊎◌, Bool, true, false, ◌&&◌, inl, inr, eqb, List, [], ◌∷◌, ◌++◌, length, take, drop, get_or, refl, sym, ap, ◌∙◌, subst, arith}
use Rattle.std.proofs.lemmas.Bool.{eqb-true, eq-eqb, ne_eqb, and_parts, and_from, or_cases, or_left, or_right}
use Rattle.std.proofs.lemmas.List.{take_all, take_more, take-append-drop}
use Rattle.msc_chart.specs.declared.event.ChartEvent.{ChartEvent}
use Rattle.msc_chart.specs.Lists.{occurs, Steps}
use Rattle.msc_chart.specs.Charts.{Visual, IsMatched, Follows, IsLinearOrder}
use Rattle.msc_chart.specs.Charts.Visual.{seen, passed, linked}
use Rattle.msc_chart.proofs.ListLemmas.{occurs-append, Steps-parts, step_at, until-append, until-within}
use Rattle.msc_chart.proofs.Drawn.{before_parts, output_parts}
use Rattle.bit_rows.specs.Tables.{with_row}
use Rattle.msc_order.specs.Caused.{Led}
use Rattle.msc_order.specs.Closing.{IsBehind}
use Rattle.msc_order.specs.Caused.Led.{led, carried, chained}
use Rattle.std.proofs.Math.Bool.{or-false}
use Rattle.bit_rows.proofs.Bits.{by_test, clash}

-- what a row takes in: what the other row has, and that row's number where it is wanted
pub row_cases : (test : ℕ → ℕ → Bool) (e f : ℕ) (wanted : Bool) (x y : ℕ) → with_row test e f wanted x y ≡ true
    → (test x y ≡ true) ⊎ ((x ≡ e) × (((wanted ≡ true) × (y ≡ f)) ⊎ (test f y ≡ true)))
unfolding with_row
row_cases test e f wanted x y h =
    elim (or_cases (test x y) _ h) [
      | inl old ↦ inl old
      | inr more ↦
          let p = and_parts _ _ more in
          inr (
            eqb-true x e p.0,
            elim (or_cases (wanted && eqb y f) (test f y) p.1) [
              | inl here ↦ let q = and_parts wanted (eqb y f) here in inl (q.0, eqb-true y f q.1)
              | inr after ↦ inr after
            ],
          )
    ]

-- what a row has it keeps
pub row_kept : (test : ℕ → ℕ → Bool) (e f : ℕ) (wanted : Bool) (x y : ℕ) → test x y ≡ true → with_row test e f wanted x y ≡ true
unfolding with_row
row_kept test e f wanted x y h = or_left (test x y) _ h

-- the number of the other row is in the row
pub row_there : (test : ℕ → ℕ → Bool) (e f : ℕ) (wanted : Bool) → wanted ≡ true → with_row test e f wanted e f ≡ true
unfolding with_row
row_there test e f wanted h = or_right (test e f) _ (and_from _ _ (eq-eqb e e refl) (or_left (wanted && eqb f f) (test f f) (and_from wanted (eqb f f) h (eq-eqb f f refl))))

-- what the other row has is in the row
pub row_after : (test : ℕ → ℕ → Bool) (e f : ℕ) (wanted : Bool) (y : ℕ) → test f y ≡ true → with_row test e f wanted e y ≡ true
unfolding with_row
row_after test e f wanted y h = or_right (test e y) _ (and_from _ _ (eq-eqb e e refl) (or_right (wanted && eqb y f) (test f y) h))

-- no other row changes
pub row_others : (test : ℕ → ℕ → Bool) (e f : ℕ) (wanted : Bool) (x y : ℕ) → x ≢ e → with_row test e f wanted x y ≡ test x y
unfolding with_row
row_others test e f wanted x y other = rw (ne_eqb x e other) (or-false (test x y))

module _ (events : List ChartEvent) (inputs : Bool) where
  -- what is led to is an event, and from an event
  pub led_below : IsMatched events → (x y : ℕ) → Led events inputs x y → (x < length events) × (y < length events)
  led_below matched x y (led b g) = let p = before_parts events x y b in (p.0, p.1)
  led_below matched x y (carried o p) =
      let below = (output_parts events x o).0 in (below, subst (λ (z : ℕ). z < length events) p (matched.in_range x below))
  led_below matched x y (chained {y = m} h k) = ((led_below matched x m h).0, (led_below matched m y k).1)

-- every number stands behind the first none
pub nothing_behind : (order : List ℕ) (x : ℕ) → IsBehind order 0 x
unfolding occurs
nothing_behind order x = refl

-- no number of the list stands behind all of it
pub all_stand : (order : List ℕ) (x : ℕ) → IsBehind order (length order - 0) x → occurs order x ≡ false
all_stand order x none =
    let whole : length order - 0 ≡ length order = omega arith in
    subst (λ (l : List ℕ). occurs l x ≡ false) (take_all (length order) order (omega arith)) (subst (λ (k : ℕ). occurs (take k order) x ≡ false) whole none)

-- the visual order is between events
pub visual_below : (events : List ChartEvent) → IsMatched events → (x y : ℕ) → Visual events x y → (x < length events) × (y < length events)
visual_below events matched x y (seen b) = let p = before_parts events x y b in (p.0, p.1)
visual_below events matched x y (passed o p) =
    let below = (output_parts events x o).0 in (below, subst (λ (z : ℕ). z < length events) p (matched.in_range x below))
visual_below events matched x y (linked {y = m} h k) = ((visual_below events matched x m h).0, (visual_below events matched m y k).1)

-- what occurs in a list with one more number, and not in the list, is that number
last_is : (xs : List ℕ) (e f : ℕ) → occurs xs f ≡ false → occurs (xs ++ e ∷ []) f ≡ true → f ≡ e
unfolding occurs
last_is xs e f late there =
    let both = sym (occurs-append xs (e ∷ []) f) ∙ there in
    elim (or_cases _ _ (rw late at both)) [ inl same ↦ sym (eqb-true e f same) | inr none ↦ clash none refl ]

-- the step at a place of a list of steps
step_of : (May : List ℕ → ℕ → Type 0) (xs : List ℕ) (i : ℕ) → Steps May [] xs → i < length xs → May (take i xs) (get_or xs i 0) × Steps May [] (take (i + 1) xs)
step_of May xs i steps below =
    let whole : xs ≡ take (i + 1) xs ++ drop (i + 1) xs = sym (take-append-drop (i + 1) xs) in
    let front = (Steps-parts May [] (take (i + 1) xs) (drop (i + 1) xs) (subst (λ (l : List ℕ). Steps May [] l) whole steps)).0 in
    let last = (Steps-parts May [] (take i xs) (get_or xs i 0 ∷ []) (subst (λ (l : List ℕ). Steps May [] l) (take_more xs i 0 below) front)).1 in
    (last.0, front)

module _ (events : List ChartEvent) (order : List ℕ) (linear : IsLinearOrder events order) (i : ℕ) (below : i < length order) where
  -- the event at a place of the order
  pub at_place : Follows events (take i order) (get_or order i 0)
  at_place = (step_of (Follows events) order i linear.steps below).0

  -- what comes after it visibly does not stand among the events up to it
  pub behind : (f : ℕ) → Visual events (get_or order i 0) f → IsBehind order (i + 1) f
  behind f v =
      let e : ℕ = get_or order i 0 in
      let front = subst (λ (l : List ℕ). Steps (Follows events) [] l) (take_more order i 0 below) (step_of (Follows events) order i linear.steps below).1 in
      by_test (occurs (take (i + 1) order) f)
      (λ there.
      let seen_there : occurs (take i order ++ e ∷ []) f ≡ true = ap (λ (l : List ℕ). occurs l f) (sym (take_more order i 0 below)) ∙ there in
      let stands = (step_at (Follows events) (take i order ++ e ∷ []) f front seen_there).1.precedes e v in
      by_test (occurs (take i order) f)
      (λ early. clash (until-within (take i order) f e (ap (λ (l : List ℕ). occurs l e) (sym (until-append (take i order) (e ∷ []) f early)) ∙ stands)) at_place.new)
      (λ late. clash (at_place.precedes e (subst (λ (z : ℕ). Visual events e z) (last_is (take i order) e f late seen_there) v)) at_place.new))
      (λ h. h)

  -- an event behind all but it is it, or stands behind it
  pub behind_cases : (x : ℕ) → IsBehind order i x → x ≢ get_or order i 0 → IsBehind order (i + 1) x
  unfolding occurs
  behind_cases x early other =
      ap (λ (l : List ℕ). occurs l x) (take_more order i 0 below) ∙ occurs-append (take i order) (get_or order i 0 ∷ []) x
      ∙ rw (early, ne_eqb (get_or order i 0) x (λ same. other (sym same))) refl

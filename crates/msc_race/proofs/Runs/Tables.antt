-- The order of events can be told, whichever lines are ready: a table is filled pair by pair until no rule
-- gives another pair. So the enforced order can be told.
use Rattle.std.proofs.Common.{◌≡◌, ℕ, zero, suc, ◌<◌, ◌≤◌, Bool, true, false, ◌&&◌, ◌||◌, not, ◌⊎◌, inl, inr, eqb, length, refl, sym, ◌∙◌, subst, arith}
use Rattle.std.proofs.lemmas.Bool.{eqb-true, eq-eqb, and_parts, and_from, and_cases, or_cases, or_left, or_right, or_parts, not-true, not-false, not_from_true, not_from_false}
use Rattle.std.proofs.Math.Nat.{le_refl}
use Rattle.msc_chart.specs.Charts.{line, partner, is_input}
use Rattle.msc_chart.specs.Orders.{WiredChart, IsWired, queue, Enforced, IsEnforcedOrder}
use Rattle.msc_chart.specs.Precedence.{Precedes, none_ready}
use Rattle.msc_chart.specs.Precedence.Precedes.{drawn, awaited, sent, joined, queued}
use Rattle.msc_chart.proofs.Precedence.{none_ready_is_enforced}
use Rattle.msc_race.proofs.Shared.{by_test, clash, count_below, count-le, count-less, find_below, any_below, none_of_any, some_of_any, any_from, sum_below, sum-less}
use Rattle.msc_race.proofs.Runs.EventLemmas.{output_below, input_below, partner_of_output, partner_of_input}
use Rattle.msc_race.proofs.Runs.EnforcedPairs.{precedes_below}
use Rattle.msc_race.proofs.Runs.Needed.{is_needed, needed_drawn, needed_awaited, needed_sent, needed_cases}

-- a table with one pair more
with_pair : (ℕ → ℕ → Bool) → ℕ → ℕ → ℕ → ℕ → Bool
with_pair table a b x y = (eqb x a && eqb y b) || table x y

-- how many pairs of numbers below a bound are missing in a table
missing : (ℕ → ℕ → Bool) → ℕ → ℕ
missing table n = sum_below (λ x. count_below (λ y. not (table x y)) n) n

-- each new pair leaves fewer missing
missing_less : (table : ℕ → ℕ → Bool) (n a b : ℕ) → a < n → b < n → table a b ≡ false
    → missing (with_pair table a b) n < missing table n
unfolding missing with_pair
missing_less table n a b a_below b_below out =
    let still : (x y : ℕ) → not (with_pair table a b x y) ≡ true → not (table x y) ≡ true =
    λ x y h. not_from_false _ (or_parts _ _ (not-true _ h)).1 in
    let row : ℕ → ℕ = λ x. count_below (λ y. not (table x y)) n in
    let new_row : ℕ → ℕ = λ x. count_below (λ y. not (with_pair table a b x y)) n in
    sum-less row new_row n a
    (λ x below. count-le (λ y. not (table x y)) (λ y. not (with_pair table a b x y)) n (λ y lt h. still x y h))
    a_below
    (count-less (λ y. not (table a y)) (λ y. not (with_pair table a b a y)) n b
    (λ y lt h. still a y h) b_below (not_from_false _ out)
    (not_from_true _ (or_left _ _ (and_from _ _ (eq-eqb a a refl) (eq-eqb b b refl)))))

-- what has to come before another by a rule precedes it
pub needed_order : (chart : WiredChart) (ready : ℕ → Bool) (fifo : Bool) (x y : ℕ) → is_needed chart ready x y ≡ true → Precedes chart ready fifo x y
needed_order chart ready fifo x y h = needed_cases chart ready x y h (λ b o. drawn b o) (λ b i l. awaited b i l) (λ o p. sent o p)

-- a test for the order of the events of a chart
pub record IsOrderTest (chart : WiredChart) (ready : ℕ → Bool) (fifo : Bool) (order : ℕ → ℕ → Bool) : Type 0 where
  pub holds : (x y : ℕ) → order x y ≡ true → Precedes chart ready fifo x y
  pub complete : (x y : ℕ) → Precedes chart ready fifo x y → order x y ≡ true

module _ (chart : WiredChart) (is_wired : IsWired chart) (ready : ℕ → Bool) (fifo : Bool) where
  -- x and y are inputs of one queue whose line is not ready, and the rule of queues holds
  are_loose : ℕ → ℕ → Bool
  are_loose x y =
      (fifo && (is_input chart.events x && is_input chart.events y))
      && (eqb (queue chart x) (queue chart y) && not (ready (line chart.events y)))

  -- a rule gives the pair from the pairs of a table
  is_given : (ℕ → ℕ → Bool) → ℕ → ℕ → Bool
  is_given table x y =
      is_needed chart ready x y
      || (any_below (λ z. table x z && table z y) (length chart.events)
      || (are_loose x y && table (partner chart.events x) (partner chart.events y)))

  -- a table of ordered pairs
  abbrev IsOrderedIn : (ℕ → ℕ → Bool) → Type 0
  IsOrderedIn table = (x y : ℕ) → table x y ≡ true → Precedes chart ready fifo x y

  -- a table to which no rule gives another pair
  abbrev IsClosed : (ℕ → ℕ → Bool) → Type 0
  IsClosed table =
      (x y : ℕ) → x < length chart.events → y < length chart.events → is_given table x y ≡ true → table x y ≡ true

  -- what a rule gives from ordered pairs is ordered
  given_sound : (table : ℕ → ℕ → Bool) → IsOrderedIn table → (x y : ℕ) → is_given table x y ≡ true
      → Precedes chart ready fifo x y
  unfolding is_given are_loose
  given_sound table sound x y h =
      elim (or_cases _ _ h) [
        | inl one ↦ needed_order chart ready fifo x y one
        | inr more ↦ elim (or_cases _ _ more) [
          | inl through ↦
              let z = some_of_any (λ z. table x z && table z y) (length chart.events) through in
              let both = and_parts _ _ z.2 in
              joined (sound x z.0 both.0) (sound z.0 y both.1)
          | inr mates ↦
              let all = and_parts _ _ mates in
              let own = and_parts _ _ all.0 in
              let rule = and_parts _ _ own.0 in
              let inputs = and_parts _ _ rule.1 in
              let share = and_parts _ _ own.1 in
              let x_below = input_below chart.events x inputs.0 in
              let y_below = input_below chart.events y inputs.1 in
              let queues = is_wired.one_queue x x_below ∙ eqb-true _ _ share.0 ∙ sym (is_wired.one_queue y y_below) in
              queued rule.0
              (partner_of_input chart.events is_wired.matched x inputs.0) (partner_of_input chart.events is_wired.matched y inputs.1) queues
              (sound (partner chart.events x) (partner chart.events y) all.1)
              (is_wired.matched.to_and_fro x x_below) (is_wired.matched.to_and_fro y y_below) (not-true _ share.1)
        ]
      ]

  -- so the table stays one of ordered pairs
  with_pair_sound : (table : ℕ → ℕ → Bool) (a b : ℕ) → IsOrderedIn table → Precedes chart ready fifo a b
      → IsOrderedIn (with_pair table a b)
  unfolding with_pair
  with_pair_sound table a b sound h x y k =
      elim (or_cases _ _ k) [
        | inl same ↦
            let both = and_parts _ _ same in
            let x_same : a ≡ x = sym (eqb-true x a both.0) in
            let y_same : b ≡ y = sym (eqb-true y b both.1) in
            subst (λ (z : ℕ). Precedes chart ready fifo x z) y_same (subst (λ (z : ℕ). Precedes chart ready fifo z b) x_same h)
        | inr old ↦ sound x y old
      ]

  -- a closed table has every ordered pair, by the rules one by one
  closed_complete : (table : ℕ → ℕ → Bool) → IsClosed table → (x y : ℕ) → Precedes chart ready fifo x y
      → table x y ≡ true
  unfolding is_given are_loose
  closed_complete table closed x y (drawn b o) =
      let below = precedes_below chart is_wired ready fifo x y (drawn b o) in
      closed x y below.0 below.1 (or_left _ _ (needed_drawn chart ready x y b o))
  closed_complete table closed x y (awaited b i l) =
      let below = precedes_below chart is_wired ready fifo x y (awaited b i l) in
      closed x y below.0 below.1 (or_left _ _ (needed_awaited chart ready x y b i l))
  closed_complete table closed x y (sent o p) =
      let below = precedes_below chart is_wired ready fifo x y (sent o p) in
      closed x y below.0 below.1 (or_left _ _ (needed_sent chart ready x y o p))
  closed_complete table closed x y (joined {y = m} h k) =
      let left = precedes_below chart is_wired ready fifo x m h in
      let right = precedes_below chart is_wired ready fifo m y k in
      let both = and_from _ _ (closed_complete table closed x m h) (closed_complete table closed m y k) in
      let through = any_from (λ z. table x z && table z y) (length chart.events) m left.1 both in
      closed x y left.0 right.1 (or_right _ _ (or_left _ _ through))
  closed_complete table closed x y (queued {s = s} {t = t} rule os ot same h p q loose) =
      let outputs = closed_complete table closed s t h in
      let s_below = output_below chart.events s os in
      let t_below = output_below chart.events t ot in
      let x_input : is_input chart.events x ≡ true = rw (← p) (partner_of_output chart.events is_wired.matched s os) in
      let y_input : is_input chart.events y ≡ true = rw (← q) (partner_of_output chart.events is_wired.matched t ot) in
      let x_back : partner chart.events x ≡ s = rw (← p) (is_wired.matched.to_and_fro s s_below) in
      let y_back : partner chart.events y ≡ t = rw (← q) (is_wired.matched.to_and_fro t t_below) in
      let x_queue : queue chart x ≡ queue chart s = rw (← p) (is_wired.one_queue s s_below) in
      let y_queue : queue chart y ≡ queue chart t = rw (← q) (is_wired.one_queue t t_below) in
      let share = and_from _ _ (eq-eqb _ _ (x_queue ∙ same ∙ sym y_queue)) (not_from_false _ loose) in
      let own = and_from _ _ (and_from _ _ rule (and_from _ _ x_input y_input)) share in
      closed x y (input_below chart.events x x_input) (input_below chart.events y y_input)
      (or_right _ _ (or_right _ _ (and_from _ _ own (rw (x_back, y_back) outputs))))

  -- a pair that a rule gives and the table lacks, or the table is closed
  next_pair : (table : ℕ → ℕ → Bool)
      → ((x : ℕ) × (y : ℕ) × (x < length chart.events) × (y < length chart.events)
      × (is_given table x y ≡ true) × (table x y ≡ false))
      ⊎ IsClosed table
  next_pair table =
      let n : ℕ = length chart.events in
      elim (find_below (λ x. any_below (λ y. is_given table x y && not (table x y)) n) n) [
        | inl found ↦
            let y = some_of_any (λ y. is_given table found.0 y && not (table found.0 y)) n found.2 in
            let both = and_parts _ _ y.2 in
            inl (found.0, y.0, found.1, y.1, both.0, not-true _ both.1)
        | inr none ↦ inr (λ x y x_below y_below h.
            let fails = none_of_any (λ y. is_given table x y && not (table x y)) n (none x x_below) y y_below in
            elim (and_cases _ _ fails) [
              | inl other ↦ clash h other
              | inr there ↦ not-false _ there
            ])
      ]

  -- a closed table of ordered pairs is a test for the order
  order_of : (table : ℕ → ℕ → Bool) → IsOrderedIn table → IsClosed table → (order : ℕ → ℕ → Bool) × IsOrderTest chart ready fifo order
  order_of table sound closed = (
    table,
    record { holds = sound; complete = closed_complete table closed },
  )

  -- fill a table until it is closed
  filled : (fuel : ℕ) (table : ℕ → ℕ → Bool) → IsOrderedIn table
      → missing table (length chart.events) ≤ fuel
      → (order : ℕ → ℕ → Bool) × IsOrderTest chart ready fifo order
  filled zero table sound enough =
      elim (next_pair table) [
        | inl pair ↦
            let less = missing_less table (length chart.events) pair.0 pair.1 pair.2 pair.3 pair.5 in
            let h : ⊥ = omega arith in absurd h
        | inr closed ↦ order_of table sound closed
      ]
  filled (suc fuel) table sound enough =
      elim (next_pair table) [
        | inl pair ↦
            let less = missing_less table (length chart.events) pair.0 pair.1 pair.2 pair.3 pair.5 in
            let link = given_sound table sound pair.0 pair.1 pair.4 in
            let still = with_pair_sound table pair.0 pair.1 sound link in
            filled fuel (with_pair table pair.0 pair.1) still (omega arith)
        | inr closed ↦ order_of table sound closed
      ]

  -- There is a test for the order.
  pub precedes_order : (order : ℕ → ℕ → Bool) × IsOrderTest chart ready fifo order
  precedes_order =
      let empty : ℕ → ℕ → Bool = λ x y. false in
      filled (missing empty (length chart.events)) empty (λ x y h. clash h refl) (le_refl _)

module _ (chart : WiredChart) (is_wired : IsWired chart) where
  -- So there is one for the enforced order.
  pub enforced_order : (order : ℕ → ℕ → Bool) × IsEnforcedOrder chart order
  enforced_order =
      let table = precedes_order chart is_wired none_ready true in (
        table.0,
        record {
          holds = λ x y x_below y_below h. (none_ready_is_enforced chart x y).0 (table.1.holds x y h);
          complete = λ x y h. table.1.complete x y ((none_ready_is_enforced chart x y).1 h);
        },
      )

  -- And two events are in the enforced order, or they are not.
  pub enforced_told : (e f : ℕ) → e < length chart.events → f < length chart.events
      → Enforced chart e f ⊎ (Enforced chart e f → ⊥)
  enforced_told e f e_below f_below =
      let table = enforced_order in
      by_test (table.0 e f)
      (λ h. inl (table.1.holds e f e_below f_below h))
      (λ out. inr (λ h. clash (table.1.complete e f h) out))

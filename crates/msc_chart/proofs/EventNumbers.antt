-- The numbers of the events of several rounds, and the way back from them.
use Rattle.std.proofs.Common.{◌≡◌, ℕ, suc, ◌+◌, ◌-◌, ◌*◌, ◌/◌, ◌%◌, ◌<◌, ◌≤◌, List, length, refl, ap, arith, inl, inr}
use Rattle.std.proofs.Math.Nat.{mul-le-mul_left, mul-le-mul_right, mul-add, suc-mul, mul_comm, le-div_iff_mul-le, div-lt_iff_lt-mul, div-add-mod, mod-lt}
use Rattle.std.proofs.lemmas.Bool.{cases_lt}
use Rattle.std.proofs.lemmas.Nat.{div-mul-add, mod-mul-add}
use Rattle.msc_chart.specs.declared.event.ChartEvent.{ChartEvent}
use Rattle.msc_chart.specs.Charts.{line, line_start, IsInTextOrder}
use Rattle.msc_chart.specs.Rounds.{first_of, past_of, count_of, number_of, offset_of, event_of, round_of}
use Rattle.msc_chart.proofs.Lines.{line_within, on_range}

-- In n rounds a line of c events, before which there are s, has the numbers below n * (s + c).
row_below : (n s c r j : ℕ) → r < n → j < c → n * s + (r * c + j) < n * (s + c)
row_below n s c r j round below =
    let rows : suc r * c ≤ n * c = mul-le-mul_right c round in
    omega (arith, rows, suc-mul r c, mul-add n s c)

-- a number from n * s on is, divided by n, from s on
div_from : (n s k : ℕ) → 0 < n → n * s ≤ k → s ≤ k / n
div_from n s k some from =
    let swapped : s * n ≤ k = omega (arith, mul_comm n s) in
    (le-div_iff_mul-le some).1 swapped

-- and the other way
from_div : (n s k : ℕ) → 0 < n → s ≤ k / n → n * s ≤ k
from_div n s k some from =
    let swapped : s * n ≤ k = (le-div_iff_mul-le some).0 from in
    omega (arith, mul_comm n s)

-- a number below n * t is, divided by n, below t
div_below : (n t k : ℕ) → 0 < n → k < n * t → k / n < t
div_below n t k some below =
    let swapped : k < t * n = omega (arith, mul_comm n t) in
    (div-lt_iff_lt-mul some).1 swapped

-- and the other way
below_div : (n t k : ℕ) → 0 < n → k / n < t → k < n * t
below_div n t k some below =
    let swapped : k < t * n = (div-lt_iff_lt-mul some).0 below in
    omega (arith, mul_comm n t)

-- where a number is below a product, no factor is 0
some_factor : (n t k : ℕ) → k < n * t → 0 < n
some_factor n t k below =
    elim (cases_lt 0 n) [
      | inl some ↦ some
      | inr none ↦
          let nothing : n * t ≤ 0 * t = mul-le-mul_right t none in
          absurd (omega (arith, nothing))
    ]

module _ (events : List ChartEvent) (ordered : IsInTextOrder events) where
  -- an event is not above the first of its line
  pub first_le : (e : ℕ) → e < length events → first_of events e ≤ e
  unfolding first_of
  first_le e within = ((on_range events ordered (line events e) e within).0 refl).0

  -- and above the end of its line
  pub past_gt : (e : ℕ) → e < length events → e < past_of events e
  unfolding past_of
  past_gt e within = ((on_range events ordered (line events e) e within).0 refl).1

  -- which is among the events
  pub past_le : (e : ℕ) → past_of events e ≤ length events
  unfolding past_of
  past_le e = (line_within (line events e) events).1

  -- the events of a line are those from its first up to its end
  pub on_line_of : (e x : ℕ) → e < length events → first_of events e ≤ x → x < past_of events e → line events x ≡ line events e
  unfolding first_of past_of
  on_line_of e x within from below =
      let end = past_le e in
      let known : x < length events = omega arith in
      (on_range events ordered (line events e) x known).1 (from, below)

  -- events of one line have its first event
  pub first_same : (x e : ℕ) → line events x ≡ line events e → first_of events x ≡ first_of events e
  unfolding first_of
  first_same x e same = ap (line_start events) same

  -- and its end
  pub past_same : (x e : ℕ) → line events x ≡ line events e → past_of events x ≡ past_of events e
  unfolding past_of
  past_same x e same = ap (λ (i : ℕ). line_start events (i + 1)) same

  -- and its number of events
  pub count_same : (x e : ℕ) → line events x ≡ line events e → count_of events x ≡ count_of events e
  unfolding count_of
  count_same x e same =
      let first = first_same x e same in
      let past = past_same x e same in
      omega arith

  -- a line ends as many events behind its first as it has
  pub count_is : (e : ℕ) → e < length events → first_of events e + count_of events e ≡ past_of events e
  unfolding count_of
  count_is e within =
      let from = first_le e within in
      let below = past_gt e within in
      omega arith

  module _ (n e r : ℕ) (within : e < length events) (round : r < n) where
    -- the place of an event on its line is below the number of events there
    place_lt : e - first_of events e < count_of events e
    place_lt =
        let from = first_le e within in
        let below = past_gt e within in
        let count = count_is e within in
        omega arith

    -- the number of an event in a round is below the end of its line in n rounds
    number_lt : number_of n events e r < n * past_of events e
    unfolding number_of
    number_lt =
        let row = row_below n (first_of events e) (count_of events e) r (e - first_of events e) round place_lt in
        let end = ap (λ (t : ℕ). n * t) (count_is e within) in
        omega (arith, row, end)

    -- it is the number of an event of n rounds
    pub number_in : number_of n events e r < n * length events
    number_in =
        let row = number_lt in
        let end : n * past_of events e ≤ n * length events = mul-le-mul_left n (past_le e) in
        omega (arith, row, end)

    -- it is not below the first of its line in n rounds
    number_ge : n * first_of events e ≤ number_of n events e r
    unfolding number_of
    number_ge = omega arith

    -- its number, written out
    number_is : number_of n events e r ≡ n * first_of events e + (r * count_of events e + (e - first_of events e))
    unfolding number_of
    number_is = refl

    -- divided by n it is on the same line
    pub half_on : line events (number_of n events e r / n) ≡ line events e
    half_on =
        let some : 0 < n = omega arith in
        let low : first_of events e ≤ number_of n events e r / n = div_from n (first_of events e) (number_of n events e r) some number_ge in
        let high : number_of n events e r / n < past_of events e = div_below n (past_of events e) (number_of n events e r) some number_lt in
        on_line_of e (number_of n events e r / n) within low high

    -- its place among those of its line is that of its round and its own
    pub offset_number : offset_of n events (number_of n events e r) ≡ r * count_of events e + (e - first_of events e)
    unfolding offset_of
    offset_number =
        let first = ap (λ (s : ℕ). n * s) (first_same (number_of n events e r / n) e half_on) in
        omega (arith, first, number_is)

    -- the way back leads to the event
    pub event_number : event_of n events (number_of n events e r) ≡ e
    unfolding event_of
    event_number =
        let same = half_on in
        let first = first_same (number_of n events e r / n) e same in
        let count = count_same (number_of n events e r / n) e same in
        let place : (r * count_of events e + (e - first_of events e)) % count_of events e ≡ e - first_of events e =
        mod-mul-add r (count_of events e) (e - first_of events e) place_lt in
        let from = first_le e within in
        rw (first, count, offset_number, place) (omega arith)

    -- and to the round
    pub round_number : round_of n events (number_of n events e r) ≡ r
    unfolding round_of
    round_number =
        let count = count_same (number_of n events e r / n) e half_on in
        rw (count, offset_number) (div-mul-add r (count_of events e) (e - first_of events e) place_lt)

  module _ (n k : ℕ) (within : k < n * length events) where
    -- there are rounds
    pub some_rounds : 0 < n
    some_rounds = some_factor n (length events) k within

    -- an event of n rounds is, divided by n, an event of the chart
    pub half_in : k / n < length events
    half_in = div_below n (length events) k some_rounds within

    -- it is not below the first of its line in n rounds
    pub first_from : n * first_of events (k / n) ≤ k
    first_from = from_div n (first_of events (k / n)) k some_rounds (first_le (k / n) half_in)

    -- its place on its line is below n times the number of events there
    pub offset_lt : offset_of n events k < n * count_of events (k / n)
    unfolding offset_of
    offset_lt =
        let from = first_from in
        let below : k < n * past_of events (k / n) = below_div n (past_of events (k / n)) k some_rounds (past_gt (k / n) half_in) in
        let count = ap (λ (t : ℕ). n * t) (count_is (k / n) half_in) in
        omega (arith, from, below, count, mul-add n (first_of events (k / n)) (count_of events (k / n)))

    -- its line has events
    pub some_count : 0 < count_of events (k / n)
    some_count =
        let from = first_le (k / n) half_in in
        let below = past_gt (k / n) half_in in
        let count = count_is (k / n) half_in in
        omega arith

    -- its round is one of n
    pub round_in : round_of n events k < n
    unfolding round_of
    round_in =
        let below : offset_of n events k < n * count_of events (k / n) = offset_lt in
        (div-lt_iff_lt-mul some_count).1 below

    -- it is on the line of its event
    pub event_on : line events (event_of n events k) ≡ line events (k / n)
    unfolding event_of
    event_on =
        let place : offset_of n events k % count_of events (k / n) < count_of events (k / n) = mod-lt (offset_of n events k) some_count in
        let count = count_is (k / n) half_in in
        on_line_of (k / n) (first_of events (k / n) + offset_of n events k % count_of events (k / n)) half_in (omega arith) (omega arith)

    -- which is an event of the chart
    pub event_in : event_of n events k < length events
    unfolding event_of
    event_in =
        let place : offset_of n events k % count_of events (k / n) < count_of events (k / n) = mod-lt (offset_of n events k) some_count in
        let count = count_is (k / n) half_in in
        let end = past_le (k / n) in
        omega arith

    -- the place of the event on its line
    place_is : event_of n events k - first_of events (k / n) ≡ offset_of n events k % count_of events (k / n)
    unfolding event_of
    place_is = omega arith

    -- the rounds before, and the place
    whole : round_of n events k * count_of events (k / n) + offset_of n events k % count_of events (k / n) ≡ offset_of n events k
    unfolding round_of
    whole =
        omega (
          arith,
          mul_comm (offset_of n events k / count_of events (k / n)) (count_of events (k / n)),
          div-add-mod (offset_of n events k) (count_of events (k / n)),
        )

    -- the place among those of its line, written out
    offset_is : offset_of n events k ≡ k - n * first_of events (k / n)
    unfolding offset_of
    offset_is = refl

    -- the number of that event in that round is the number itself
    pub number_event : number_of n events (event_of n events k) (round_of n events k) ≡ k
    unfolding number_of
    number_event =
        let first = first_same (event_of n events k) (k / n) event_on in
        let count = count_same (event_of n events k) (k / n) event_on in
        let from = first_from in
        rw (first, count) (omega (arith, place_is, whole, offset_is, from))

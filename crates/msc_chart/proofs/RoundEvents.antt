-- The events of several rounds: what each is, and that they are in the order of a text and on lines.
use Rattle.std.proofs.Common.{◌≡◌, ℕ, suc, ◌+◌, ◌-◌, ◌*◌, ◌/◌, ◌%◌, ◌<◌, ◌≤◌, ◌⊎◌, List, length, inl, inr, sym, ap, ◌∙◌, arith}
use Rattle.std.proofs.Math.Nat.{mul-le-mul_left, mul-le-mul_right, suc-mul, mul_comm, div-add-mod, le-div_iff_mul-le, mul-div-le}
use Rattle.std.proofs.lemmas.Bool.{cases_lt}
use Rattle.std.proofs.lemmas.List.FromFn.{length-map-range_with_len, get_or-map-range_with_len}
use Rattle.msc_chart.specs.declared.event.ChartEvent.{ChartEvent}
use Rattle.msc_chart.specs.Charts.{at, no_event, line, segment, kind, partner, message, action, sends, takes, acts, controls, is_output, is_input, is_local, is_controlled, IsInTextOrder, AreOnLines}
use Rattle.msc_chart.specs.Rounds.{first_of, past_of, count_of, segments_of, number_of, offset_of, event_of, round_of, segment_in, subject_in, repeated_event, repeated_events}
use Rattle.msc_chart.proofs.Drawn.{output_is, input_is, local_is, controlled_is}
use Rattle.msc_chart.proofs.EventNumbers.{first_le, past_gt, past_le, on_line_of, first_same, past_same, count_same, event_in, round_in, event_on, half_in, some_count, some_rounds}

module _ (n m : ℕ) (events : List ChartEvent) where
  -- n rounds have n times as many events
  pub events_many : length (repeated_events n m events) ≡ n * length events
  unfolding repeated_events
  events_many = length-map-range_with_len (repeated_event n m events) 0 (n * length events)

  -- a number of an event of n rounds, and back
  pub events_in : (k : ℕ) → k < length (repeated_events n m events) → k < n * length events
  events_in k within = omega (arith, events_many)

  pub in_events : (k : ℕ) → k < n * length events → k < length (repeated_events n m events)
  in_events k within = omega (arith, events_many)

  module _ (k : ℕ) (within : k < n * length events) where
    -- what stands there
    at_is : at (repeated_events n m events) k ≡ repeated_event n m events k
    unfolding repeated_events
    at_is = get_or-map-range_with_len (repeated_event n m events) 0 (n * length events) k k no_event within (omega arith)

    -- its line is that of its event
    pub line_is : line (repeated_events n m events) k ≡ line events (event_of n events k)
    unfolding line repeated_event
    line_is = ap (λ (x : ChartEvent). x.line) at_is

    -- its segment is that of its event, in its round
    pub segment_is : segment (repeated_events n m events) k ≡ segment_in events (event_of n events k) (round_of n events k)
    unfolding segment repeated_event
    segment_is = ap (λ (x : ChartEvent). x.segment) at_is

    -- its kind is that of its event
    pub kind_is : kind (repeated_events n m events) k ≡ kind events (event_of n events k)
    unfolding kind repeated_event
    kind_is = ap (λ (x : ChartEvent). x.kind) at_is

    -- its partner is that of its event, in its round
    pub partner_is : partner (repeated_events n m events) k ≡ number_of n events (partner events (event_of n events k)) (round_of n events k)
    unfolding partner repeated_event
    partner_is = ap (λ (x : ChartEvent). x.partner) at_is

    -- what it is about
    pub message_is : message (repeated_events n m events) k ≡ subject_in n m events k
    unfolding message repeated_event
    message_is = ap (λ (x : ChartEvent). x.subject) at_is

    -- the same of an action
    pub action_is : action (repeated_events n m events) k ≡ subject_in n m events k
    unfolding action repeated_event
    action_is = ap (λ (x : ChartEvent). x.subject) at_is

module _ (n m : ℕ) (events : List ChartEvent) (ordered : IsInTextOrder events) (k : ℕ) (within : k < n * length events) where
  -- it is an output where its event is one
  pub output_same : is_output (repeated_events n m events) k ≡ is_output events (event_of n events k)
  output_same =
      sym (output_is (repeated_events n m events) k (in_events n m events k within))
      ∙ ap sends (kind_is n m events k within)
      ∙ output_is events (event_of n events k) (event_in events ordered n k within)

  -- so for inputs
  pub input_same : is_input (repeated_events n m events) k ≡ is_input events (event_of n events k)
  input_same =
      sym (input_is (repeated_events n m events) k (in_events n m events k within))
      ∙ ap takes (kind_is n m events k within)
      ∙ input_is events (event_of n events k) (event_in events ordered n k within)

  -- for local events
  pub local_same : is_local (repeated_events n m events) k ≡ is_local events (event_of n events k)
  local_same =
      sym (local_is (repeated_events n m events) k (in_events n m events k within))
      ∙ ap acts (kind_is n m events k within)
      ∙ local_is events (event_of n events k) (event_in events ordered n k within)

  -- and for controlled events
  pub controlled_same : is_controlled (repeated_events n m events) k ≡ is_controlled events (event_of n events k)
  controlled_same =
      sym (controlled_is (repeated_events n m events) k (in_events n m events k within))
      ∙ ap controls (kind_is n m events k within)
      ∙ controlled_is events (event_of n events k) (event_in events ordered n k within)

module _ (events : List ChartEvent) (ordered : IsInTextOrder events) where
  -- the last event of the line of an event
  last_on : (e : ℕ) → e < length events → (past_of events e - 1 < length events) × (e ≤ past_of events e - 1) × (line events (past_of events e - 1) ≡ line events e)
  last_on e within =
      let from = first_le events ordered e within in
      let below = past_gt events ordered e within in
      let most = past_le events ordered e in
      (omega arith, omega arith, on_line_of events ordered e (past_of events e - 1) within (omega arith) (omega arith))

  -- a segment is one of those of its line
  pub segment_lt : (e : ℕ) → e < length events → segment events e < segments_of events e
  unfolding segments_of
  segment_lt e within =
      let last = last_on e within in
      let rises = ordered.rising e (past_of events e - 1) last.1 last.0 (sym last.2) in
      omega (arith, rises)

  -- events of one line have as many segments there
  pub segments_same : (x e : ℕ) → line events x ≡ line events e → segments_of events x ≡ segments_of events e
  unfolding segments_of
  segments_same x e same = ap (λ (p : ℕ). segment events (p - 1) + 1) (past_same events ordered x e same)

  -- which are at most as many as the events
  pub segments_few : (lines : ℕ) → AreOnLines lines events → (e : ℕ) → e < length events → segments_of events e ≤ length events
  unfolding segments_of
  segments_few lines on e within =
      let last = last_on e within in
      let few = on.few (past_of events e - 1) last.0 in
      omega (arith, few)

  -- on one line the segments of a round are before those of a later round
  pub segment_earlier : (x y r q : ℕ) → x < length events → line events x ≡ line events y → r < q → segment_in events x r < segment_in events y q
  unfolding segment_in
  segment_earlier x y r q within same earlier =
      let low = segment_lt x within in
      let rows : suc r * segments_of events x ≤ q * segments_of events x = mul-le-mul_right (segments_of events x) earlier in
      let swap = ap (λ (h : ℕ). q * h) (segments_same x y same) in
      omega (arith, low, rows, swap, suc-mul r (segments_of events x))

  -- a segment in one of n rounds is below n times those of its line
  pub segment_row : (n e r : ℕ) → e < length events → r < n → segment_in events e r < n * segments_of events e
  unfolding segment_in
  segment_row n e r within round =
      let low = segment_lt e within in
      let rows : suc r * segments_of events e ≤ n * segments_of events e = mul-le-mul_right (segments_of events e) round in
      omega (arith, low, rows, suc-mul r (segments_of events e))

  -- and in one round they are as in the chart
  pub segment_within : (x y r : ℕ) → line events x ≡ line events y
      → (segment events x < segment events y → segment_in events x r < segment_in events y r)
      × (segment events x ≤ segment events y → segment_in events x r ≤ segment_in events y r)
      × (segment_in events x r < segment_in events y r → segment events x < segment events y)
  unfolding segment_in
  segment_within x y r same =
      let swap = ap (λ (h : ℕ). r * h) (segments_same x y same) in
      (λ h. omega (arith, h, swap), λ h. omega (arith, h, swap), λ h. omega (arith, h, swap))

-- a number that is divided is not less than one that is less
div_rises : (x y c : ℕ) → 0 < c → x ≤ y → x / c ≤ y / c
div_rises x y c some le =
    let fits : x / c * c ≤ y = omega (arith, mul-div-le x c, mul_comm c (x / c), le) in
    (le-div_iff_mul-le some).1 fits

module _ (n : ℕ) (events : List ChartEvent) (ordered : IsInTextOrder events) (x y : ℕ) (le : x ≤ y) (within : y < n * length events) where
  -- the numbers below are numbers of n rounds too
  below_in : x < n * length events
  below_in = omega arith

  -- lines do not fall along the numbers of n rounds
  pub lines_rise : line events (event_of n events x) ≤ line events (event_of n events y)
  lines_rise =
      let half : x / n ≤ y / n = div_rises x y n (some_rounds events ordered n y within) le in
      let rise = ordered.lines (x / n) (y / n) half (half_in events ordered n y within) in
      omega (arith, rise, event_on events ordered n x below_in, event_on events ordered n y within)

  -- and on one line a round comes after the other, and in a round the events as in the chart
  pub places_rise : line events (event_of n events x) ≡ line events (event_of n events y)
      → (round_of n events x < round_of n events y) ⊎ ((round_of n events x ≡ round_of n events y) × (event_of n events x ≤ event_of n events y))
  unfolding round_of event_of offset_of
  places_rise same =
      let halves : line events (x / n) ≡ line events (y / n) = sym (event_on events ordered n x below_in) ∙ same ∙ event_on events ordered n y within in
      let first = first_same events ordered (x / n) (y / n) halves in
      let count = count_same events ordered (x / n) (y / n) halves in
      rw (first, count)
      (rises (x - n * first_of events (y / n)) (y - n * first_of events (y / n)) (count_of events (y / n)) (first_of events (y / n))
      (some_count events ordered n y within) (omega arith))
    where
      -- of two places on a line, in rounds of c events
      rises : (a b c s : ℕ) → 0 < c → a ≤ b → (a / c < b / c) ⊎ ((a / c ≡ b / c) × (s + a % c ≤ s + b % c))
      rises a b c s some up =
          elim (cases_lt (a / c) (b / c)) [
            | inl lt ↦ inl lt
            | inr ge ↦
                let same : a / c ≡ b / c = omega (arith, div_rises a b c some up, ge) in
                let rows = ap (λ (q : ℕ). c * q) same in
                inr (same, omega (arith, rows, div-add-mod a c, div-add-mod b c, up))
          ]

module _ (n m : ℕ) (events : List ChartEvent) (ordered : IsInTextOrder events) where
  -- n rounds are in the order of a text
  pub rounds_in_text_order : IsInTextOrder (repeated_events n m events)
  rounds_in_text_order = record {
    lines = λ x y le within.
        let y-in = events_in n m events y within in
        let x-in : x < n * length events = omega arith in
        omega (arith, lines_rise n events ordered x y le y-in, line_is n m events x x-in, line_is n m events y y-in);
    rising = λ x y le within same.
        let y-in = events_in n m events y within in
        let x-in : x < n * length events = omega arith in
        let on : line events (event_of n events x) ≡ line events (event_of n events y) = sym (line_is n m events x x-in) ∙ same ∙ line_is n m events y y-in in
        let e = event_in events ordered n x x-in in
        let rises : segment_in events (event_of n events x) (round_of n events x) ≤ segment_in events (event_of n events y) (round_of n events y) =
        elim (places_rise n events ordered x y le y-in on) [
          | inl earlier ↦ let h = segment_earlier events ordered (event_of n events x) (event_of n events y) (round_of n events x) (round_of n events y) e on earlier in omega arith
          | inr p ↦
              let up = ordered.rising (event_of n events x) (event_of n events y) p.1 (event_in events ordered n y y-in) on in
              let h = (segment_within events ordered (event_of n events x) (event_of n events y) (round_of n events x) on).1 up in
              let q = ap (segment_in events (event_of n events y)) p.0 in
              omega (arith, h, q)
        ] in
        omega (arith, rises, segment_is n m events x x-in, segment_is n m events y y-in);
  }

  -- and on as many lines
  pub rounds_on_lines : (lines : ℕ) → AreOnLines lines events → AreOnLines lines (repeated_events n m events)
  rounds_on_lines lines on = record {
    on_line = λ k within.
        let k-in = events_in n m events k within in
        let there = on.on_line (event_of n events k) (event_in events ordered n k k-in) in
        omega (arith, there, line_is n m events k k-in);
    few = λ k within.
        let k-in = events_in n m events k within in
        let e = event_of n events k in
        let e-in = event_in events ordered n k k-in in
        let low = segment_row events ordered n e (round_of n events k) e-in (round_in events ordered n k k-in) in
        let rows : n * segments_of events e ≤ n * length events = mul-le-mul_left n (segments_few events ordered lines on e e-in) in
        omega (arith, low, rows, segment_is n m events k k-in, events_many n m events);
  }

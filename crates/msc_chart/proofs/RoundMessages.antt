-- The messages and the actions of several rounds have their events, and these have theirs.
use Rattle.std.proofs.Common.{◌≡◌, ℕ, suc, ◌+◌, ◌*◌, ◌/◌, ◌%◌, ◌<◌, ◌≤◌, Bool, true, false, cond, List, [], ◌∷◌, length, map, take, inl, inr, refl, sym, ap, ◌∙◌, arith}
use Rattle.std.specs.Prelude.{count_by}
use Rattle.std.specs.List.{range_with_len}
use Rattle.std.proofs.Math.Nat.{mul-le-mul_right, suc-mul, div-lt_iff_lt-mul, mod-lt}
use Rattle.std.proofs.lemmas.Nat.{div-add-mod', div-mul-add, mod-mul-add}
use Rattle.std.proofs.lemmas.Bool.{cases_lt}
use Rattle.std.proofs.lemmas.List.{length-map}
use Rattle.std.proofs.lemmas.List.FromFn.{length-map-range_with_len, get_or-map-range_with_len, take-map-range_with_len}
use Rattle.std.proofs.lemmas.List.Sums.{sum_by-cons, length-filter}
use Rattle.msc_chart.specs.declared.event.ChartEvent.{ChartEvent}
use Rattle.msc_chart.specs.declared.message.Message.{Message}
use Rattle.msc_chart.specs.Charts.{no_event, kind, partner, message, action, acts, is_output, is_local}
use Rattle.msc_chart.specs.Drawings.{Drawing, IsAccepted, HasMessages, HasActions, no_message, label_of, output_of}
use Rattle.msc_chart.specs.Rounds.{number_of, event_of, round_of, subject_in, count_below, events_below, locals_below, repeated, repeated_event, repeated_events, repeated_message, message_in}
use Rattle.msc_chart.proofs.ListLemmas.{by_test}
use Rattle.msc_chart.proofs.Drawn.{local_is, local_parts, output_parts, output_not_local, input_not_local, output_or_input, partner_of_output, partner_of_input}
use Rattle.msc_chart.proofs.Readers.{output_in}
use Rattle.msc_chart.proofs.Tally.{count_later}
use Rattle.msc_chart.proofs.EventNumbers.{event_in, round_in, number_in, event_number, round_number, number_event}
use Rattle.msc_chart.proofs.RoundEvents.{events_in, message_is, action_is, output_same, local_same}
use Rattle.msc_chart.proofs.RoundPartners.{partner_in, partner_event, partner_round, rounds_matched}

module _ (n : ℕ) (d : Drawing) (accepted : IsAccepted d) where
  -- the events of n rounds
  abbrev rounds : List ChartEvent
  rounds = repeated_events n (length d.messages) d.events

  -- n rounds have n times as many messages
  pub messages_many : length (repeated n d).messages ≡ n * length d.messages
  messages_many = length-map-range_with_len (repeated_message n d) 0 (n * length d.messages)

  module _ (k : ℕ) (within : k < n * length d.events) where
    -- an output or an input is about the message of its event, in its round
    pub message_of_round : is_local d.events (event_of n d.events k) ≡ false → message rounds k ≡ round_of n d.events k * length d.messages + message d.events (event_of n d.events k)
    unfolding subject_in
    message_of_round away =
        let e-in = event_in d.events accepted.in_text_order n k within in
        message_is n (length d.messages) d.events k within
        ∙ ap (λ (b : Bool). cond b (count_below n d.events k) (round_of n d.events k * length d.messages + message d.events (event_of n d.events k)))
        (local_is d.events (event_of n d.events k) e-in ∙ away)

    -- a local event is about the action of its number among the local events
    pub action_of_round : is_local d.events (event_of n d.events k) ≡ true → action rounds k ≡ count_below n d.events k
    unfolding subject_in
    action_of_round local =
        let e-in = event_in d.events accepted.in_text_order n k within in
        action_is n (length d.messages) d.events k within
        ∙ ap (λ (b : Bool). cond b (count_below n d.events k) (round_of n d.events k * length d.messages + message d.events (event_of n d.events k)))
        (local_is d.events (event_of n d.events k) e-in ∙ local)

    -- a message in a round is one of n rounds
    pub message_low : (q : ℕ) → q < length d.messages → round_of n d.events k * length d.messages + q < n * length d.messages
    message_low q known =
        let rows : suc (round_of n d.events k) * length d.messages ≤ n * length d.messages = mul-le-mul_right (length d.messages) (round_in d.events accepted.in_text_order n k within) in
        omega (arith, known, rows, suc-mul (round_of n d.events k) (length d.messages))

  module _ (m : ℕ) (within : m < n * length d.messages) where
    -- the chart has messages
    some_messages : 0 < length d.messages
    some_messages =
        elim (cases_lt 0 (length d.messages)) [
          | inl some ↦ some
          | inr none ↦ let nothing : length d.messages ≡ 0 = omega arith in let zero = ap (λ (x : ℕ). n * x) nothing in absurd (omega (arith, zero))
        ]

    -- it is one of these, in one of n rounds
    own_message : m % length d.messages < length d.messages
    own_message = mod-lt m some_messages

    own_round : m / length d.messages < n
    own_round = (div-lt_iff_lt-mul some_messages).1 within

    -- its output is that of the message, in its round
    pub output_is_number : output_of (repeated n d) m ≡ number_of n d.events (output_of d (m % length d.messages)) (m / length d.messages)
    unfolding output_of repeated_message message_in
    output_is_number =
        ap (λ (x : Message). x.output) (get_or-map-range_with_len (repeated_message n d) 0 (n * length d.messages) m m no_message within (omega arith))

    -- which is an event of n rounds
    pub output_number_in : output_of (repeated n d) m < n * length d.events
    output_number_in =
        let known = output_in d accepted (m % length d.messages) own_message in
        let there = number_in d.events accepted.in_text_order n (output_of d (m % length d.messages)) (m / length d.messages) known own_round in
        omega (arith, there, output_is_number)

    -- its event is the output of the message
    output_number_event : event_of n d.events (output_of (repeated n d) m) ≡ output_of d (m % length d.messages)
    output_number_event =
        ap (event_of n d.events) output_is_number
        ∙ event_number d.events accepted.in_text_order n (output_of d (m % length d.messages)) (m / length d.messages) (output_in d accepted (m % length d.messages) own_message) own_round

    -- and its round that of the message
    output_number_round : round_of n d.events (output_of (repeated n d) m) ≡ m / length d.messages
    output_number_round =
        ap (round_of n d.events) output_is_number
        ∙ round_number d.events accepted.in_text_order n (output_of d (m % length d.messages)) (m / length d.messages) (output_in d accepted (m % length d.messages) own_message) own_round

    -- it is an output
    pub output_is_one : is_output rounds (output_of (repeated n d) m) ≡ true
    output_is_one =
        output_same n (length d.messages) d.events accepted.in_text_order (output_of (repeated n d) m) output_number_in
        ∙ ap (is_output d.events) output_number_event
        ∙ accepted.has_messages.output (m % length d.messages) own_message

    -- of this message
    pub output_is_own : message rounds (output_of (repeated n d) m) ≡ m
    output_is_own =
        let o = accepted.has_messages.output (m % length d.messages) own_message in
        let away : is_local d.events (event_of n d.events (output_of (repeated n d) m)) ≡ false = ap (is_local d.events) output_number_event ∙ output_not_local d.events (output_of d (m % length d.messages)) o in
        message_of_round (output_of (repeated n d) m) output_number_in away
        ∙ ap (λ (x : ℕ). x * length d.messages + message d.events (event_of n d.events (output_of (repeated n d) m))) output_number_round
        ∙ ap (λ (x : ℕ). m / length d.messages * length d.messages + message d.events x) output_number_event
        ∙ ap (λ (x : ℕ). m / length d.messages * length d.messages + x) (accepted.has_messages.own (m % length d.messages) own_message)
        ∙ div-add-mod' m (length d.messages)

  -- the output of the message of an output is that output
  back : (e : ℕ) → is_output rounds e ≡ true → output_of (repeated n d) (message rounds e) ≡ e
  back e o =
      let within = events_in n (length d.messages) d.events e (output_parts rounds e o).0 in
      let f = event_of n d.events e in
      let r = round_of n d.events e in
      let out : is_output d.events f ≡ true = sym (output_same n (length d.messages) d.events accepted.in_text_order e within) ∙ o in
      let away = output_not_local d.events f out in
      let q = message d.events f in
      let known = accepted.has_messages.known f (event_in d.events accepted.in_text_order n e within) away in
      let is = message_of_round e within away in
      let low : message rounds e < n * length d.messages = (let l = message_low e within q known in omega (arith, l, is)) in
      let part : message rounds e % length d.messages ≡ q = ap (λ (x : ℕ). x % length d.messages) is ∙ mod-mul-add r (length d.messages) q known in
      let row : message rounds e / length d.messages ≡ r = ap (λ (x : ℕ). x / length d.messages) is ∙ div-mul-add r (length d.messages) q known in
      output_is_number (message rounds e) low
      ∙ ap (λ (x : ℕ). number_of n d.events (output_of d x) (message rounds e / length d.messages)) part
      ∙ ap (λ (x : ℕ). number_of n d.events (output_of d q) x) row
      ∙ ap (λ (x : ℕ). number_of n d.events x r) (accepted.has_messages.back f out)
      ∙ number_event d.events accepted.in_text_order n e within

  -- both ends are about one message
  shared : (e : ℕ) → e < length rounds → message rounds (partner rounds e) ≡ message rounds e
  shared e h =
      let within = events_in n (length d.messages) d.events e h in
      let f = event_of n d.events e in
      let f-in = event_in d.events accepted.in_text_order n e within in
      by_test (is_local d.events f)
      (λ local.
      let own = (rounds_matched n (length d.messages) d.events accepted.in_text_order accepted.matched).own e (local_same n (length d.messages) d.events accepted.in_text_order e within ∙ local) in
      ap (message rounds) own)
      (λ away.
      let other = partner_event n (length d.messages) d.events accepted.in_text_order accepted.matched e within in
      let round = partner_round n (length d.messages) d.events accepted.in_text_order accepted.matched e within in
      let p-in = partner_in n (length d.messages) d.events accepted.in_text_order accepted.matched e within in
      let there : is_local d.events (event_of n d.events (partner rounds e)) ≡ false = ap (is_local d.events) other ∙ end_away f f-in away in
      message_of_round (partner rounds e) p-in there
      ∙ ap (λ (x : ℕ). x * length d.messages + message d.events (event_of n d.events (partner rounds e))) round
      ∙ ap (λ (x : ℕ). round_of n d.events e * length d.messages + message d.events x) other
      ∙ ap (λ (x : ℕ). round_of n d.events e * length d.messages + x) (accepted.has_messages.shared f f-in)
      ∙ sym (message_of_round e within away))
    where
      -- the other end of a message is not local
      end_away : (f : ℕ) → f < length d.events → is_local d.events f ≡ false → is_local d.events (partner d.events f) ≡ false
      end_away f f-in away = elim (output_or_input d.events f f-in away) [
        | inl o ↦ input_not_local d.events (partner d.events f) (partner_of_output d.events accepted.matched f o)
        | inr i ↦ output_not_local d.events (partner d.events f) (partner_of_input d.events accepted.matched f i)
      ]

  -- the messages of n rounds have their events
  pub rounds_messages : HasMessages (repeated n d)
  rounds_messages = record {
    output = λ m within. output_is_one m (omega (arith, messages_many));
    own = λ m within. output_is_own m (omega (arith, messages_many));
    known = λ e h away.
        let within = events_in n (length d.messages) d.events e h in
        let gone = sym (local_same n (length d.messages) d.events accepted.in_text_order e within) ∙ away in
        let known = accepted.has_messages.known (event_of n d.events e) (event_in d.events accepted.in_text_order n e within) gone in
        let low = message_low e within (message d.events (event_of n d.events e)) known in
        omega (arith, low, message_of_round e within gone, messages_many);
    back = back;
    shared = shared;
  }

-- what is counted in a list is counted in what it becomes, by what each becomes
count_map : {X Y : Type 0} (p : Y → Bool) (f : X → Y) (xs : List X) → count_by p (map f xs) ≡ count_by (λ x. p (f x)) xs
count_map p f [] = refl
count_map p f (x ∷ xs) =
    sum_by-cons (λ y. cond {A = ℕ} (p y) 1 0) (f x) (map f xs)
    ∙ ap (λ (k : ℕ). cond (p (f x)) 1 0 + k) (count_map p f xs)
    ∙ sym (sum_by-cons (λ y. cond {A = ℕ} (p (f y)) 1 0) x xs)

module _ (n : ℕ) (d : Drawing) (accepted : IsAccepted d) where
  -- the local events below a number are those that stand before it
  counted_before : (k : ℕ) → k ≤ n * length d.events
      → count_by (λ x. acts x.kind) (take k (repeated_events n (length d.messages) d.events)) ≡ count_below n d.events k
  unfolding repeated_events repeated_event count_below events_below
  counted_before k le =
      ap (count_by (λ (x : ChartEvent). acts x.kind)) (take-map-range_with_len (repeated_event n (length d.messages) d.events) 0 (n * length d.events) k le)
      ∙ count_map (λ (x : ChartEvent). acts x.kind) (repeated_event n (length d.messages) d.events) (range_with_len 0 k)
      ∙ sym (count_map (λ (e : ℕ). acts (kind d.events e)) (event_of n d.events) (range_with_len 0 k))

  -- of all of them
  counted_all : count_by (λ x. acts x.kind) (repeated_events n (length d.messages) d.events) ≡ count_below n d.events (n * length d.events)
  unfolding repeated_events repeated_event count_below events_below
  counted_all =
      count_map (λ (x : ChartEvent). acts x.kind) (repeated_event n (length d.messages) d.events) (range_with_len 0 (n * length d.events))
      ∙ sym (count_map (λ (e : ℕ). acts (kind d.events e)) (event_of n d.events) (range_with_len 0 (n * length d.events)))

  -- as many actions as local events
  pub actions_many : length (repeated n d).actions ≡ count_below n d.events (n * length d.events)
  unfolding locals_below count_below
  actions_many =
      length-map (locals_below n d.events (n * length d.events)) (label_of d)
      ∙ length-filter (λ e. acts (kind d.events e)) (events_below n d.events (n * length d.events))

  -- the actions of n rounds have their events
  pub rounds_actions : HasActions (repeated n d)
  unfolding kind
  rounds_actions = record {
    each = actions_many ∙ sym counted_all;
    own = own;
    known = λ e local.
        let here = local_parts (repeated_events n (length d.messages) d.events) e local in
        let within = events_in n (length d.messages) d.events e here.0 in
        let less = count_later (λ (x : ChartEvent). acts x.kind) (repeated_events n (length d.messages) d.events) no_event e (n * length d.events) within here.0 here.1 in
        omega (arith, less, own e local, counted_before (n * length d.events) (omega arith), actions_many);
  }
    where
      -- a local event is numbered by those before it
      own : (e : ℕ) → is_local (repeated_events n (length d.messages) d.events) e ≡ true
          → action (repeated_events n (length d.messages) d.events) e ≡ count_by (λ x. acts x.kind) (take e (repeated_events n (length d.messages) d.events))
      own e local =
          let within = events_in n (length d.messages) d.events e (local_parts (repeated_events n (length d.messages) d.events) e local).0 in
          action_of_round n d accepted e within (sym (local_same n (length d.messages) d.events accepted.in_text_order e within) ∙ local)
          ∙ sym (counted_before e (omega arith))

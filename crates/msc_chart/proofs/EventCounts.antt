-- A chart has at most two events for each message and one for each action, and n rounds have n times
-- as many local events as actions, at most.
use Rattle.std.proofs.Common.{◌≡◌, ℕ, zero, suc, ◌+◌, ◌*◌, ◌/◌, ◌%◌, ◌<◌, ◌≤◌, ◌⊎◌, Bool, true, length, inl, inr, refl, sym, ap, ◌∙◌, arith}
use Rattle.std.proofs.Math.Nat.{mul-le-mul_right, suc-mul}
use Rattle.std.proofs.lemmas.Bool.{cases_lt}
use Rattle.std.proofs.lemmas.Nat.{div-mul-add, mod-mul-add}
use Rattle.msc_chart.specs.declared.event.EventKind.{EventKind}
use Rattle.msc_chart.specs.declared.event.EventKind.TheVariants.{Output, Input, Local}
use Rattle.msc_chart.specs.declared.event.ChartEvent.{ChartEvent}
use Rattle.msc_chart.specs.Charts.{no_event, kind, partner, message, action, sends, takes, acts, is_output, is_input, is_local}
use Rattle.msc_chart.specs.Drawings.{Drawing, IsAccepted, output_of}
use Rattle.msc_chart.specs.Rounds.{number_of, event_of, round_of, count_below}
use Rattle.msc_chart.proofs.Drawn.{output_from, input_from, local_from, local_is, local_parts, output_not_local, input_not_local, input_parts, partner_of_input}
use Rattle.msc_chart.proofs.Tally.{tally, tally_all, tally_few, count_later}
use Rattle.msc_chart.proofs.EventNumbers.{event_in, round_in, number_event}
use Rattle.msc_chart.proofs.RoundParts.{count_more, count_zero}

-- the value of an event among all: outputs by their messages, then inputs, then local events by their actions
abbrev value_in : EventKind → ℕ → ℕ → ℕ → ℕ
value_in Output m message action = message
value_in Input m message action = m + message
value_in Local m message action = m + (m + action)

module _ (d : Drawing) (accepted : IsAccepted d) where
  -- of an event of the chart
  value : ℕ → ℕ
  value e = value_in (kind d.events e) (length d.messages) (message d.events e) (action d.events e)

  -- an output, an input or a local event, with its value
  sort : (e : ℕ) → e < length d.events
      → ((is_output d.events e ≡ true) × (value e ≡ message d.events e) × (message d.events e < length d.messages))
      ⊎ (((is_input d.events e ≡ true) × (value e ≡ length d.messages + message d.events e) × (message d.events e < length d.messages))
      ⊎ ((is_local d.events e ≡ true) × (value e ≡ length d.messages + (length d.messages + action d.events e)) × (action d.events e < length d.actions)))
  unfolding value kind
  sort e within = by (kind d.events e) refl
    where
      -- by its kind
      by : (k : EventKind) → kind d.events e ≡ k
          → ((is_output d.events e ≡ true) × (value e ≡ message d.events e) × (message d.events e < length d.messages))
          ⊎ (((is_input d.events e ≡ true) × (value e ≡ length d.messages + message d.events e) × (message d.events e < length d.messages))
          ⊎ ((is_local d.events e ≡ true) × (value e ≡ length d.messages + (length d.messages + action d.events e)) × (action d.events e < length d.actions)))
      by Output is =
          let o = output_from d.events e within (ap sends is) in
          inl (o, ap (λ k. value_in k (length d.messages) (message d.events e) (action d.events e)) is, accepted.has_messages.known e within (output_not_local d.events e o))
      by Input is =
          let i = input_from d.events e within (ap takes is) in
          inr (inl (i, ap (λ k. value_in k (length d.messages) (message d.events e) (action d.events e)) is, accepted.has_messages.known e within (input_not_local d.events e i)))
      by Local is =
          let l = local_from d.events e within (ap acts is) in
          inr (inr (l, ap (λ k. value_in k (length d.messages) (message d.events e) (action d.events e)) is, accepted.has_actions.known e l))

  -- outputs of one message are one
  outputs_one : (x y : ℕ) → is_output d.events x ≡ true → is_output d.events y ≡ true → message d.events x ≡ message d.events y → x ≡ y
  outputs_one x y p q same = sym (accepted.has_messages.back x p) ∙ ap (output_of d) same ∙ accepted.has_messages.back y q

  -- so are inputs
  inputs_one : (x y : ℕ) → is_input d.events x ≡ true → is_input d.events y ≡ true → message d.events x ≡ message d.events y → x ≡ y
  inputs_one x y p q same =
      let x-in = (input_parts d.events x p).0 in
      let y-in = (input_parts d.events y q).0 in
      let partners = outputs_one (partner d.events x) (partner d.events y) (partner_of_input d.events accepted.matched x p) (partner_of_input d.events accepted.matched y q)
      (accepted.has_messages.shared x x-in ∙ same ∙ sym (accepted.has_messages.shared y y-in)) in
      sym (accepted.matched.to_and_fro x x-in) ∙ ap (partner d.events) partners ∙ accepted.matched.to_and_fro y y-in

  -- the later of two local events has another action
  locals_apart : (x y : ℕ) → x < y → is_local d.events x ≡ true → is_local d.events y ≡ true → action d.events x < action d.events y
  unfolding kind
  locals_apart x y lt p q =
      let more = count_later (λ (e : ChartEvent). acts e.kind) d.events no_event x y lt (local_parts d.events x p).0 (local_parts d.events x p).1 in
      omega (arith, more, accepted.has_actions.own x p, accepted.has_actions.own y q)

  -- local events with one action are one
  pub locals_one : (x y : ℕ) → is_local d.events x ≡ true → is_local d.events y ≡ true → action d.events x ≡ action d.events y → x ≡ y
  locals_one x y p q same =
      elim (cases_lt x y) [
        | inl lt ↦ let apart = locals_apart x y lt p q in absurd (omega arith)
        | inr ge ↦ elim (cases_lt y x) [
          | inl lt ↦ let apart = locals_apart y x lt q p in absurd (omega arith)
          | inr le ↦ omega arith
        ]
      ]

  -- different events have different values
  values_apart : (x y : ℕ) → x < y → y < length d.events → value x ≡ value y → ⊥
  values_apart x y lt within same =
      elim (sort x (omega arith)) [
        | inl a ↦ elim (sort y within) [
          | inl b ↦ let one = outputs_one x y a.0 b.0 (sym a.1 ∙ same ∙ b.1) in omega arith
          | inr c ↦ elim c [
            | inl b ↦ let s = a.1 in let t = b.1 in let u = a.2 in omega arith
            | inr b ↦ let s = a.1 in let t = b.1 in let u = a.2 in omega arith
          ]
        ]
        | inr e ↦ elim e [
          | inl a ↦ elim (sort y within) [
            | inl b ↦ let s = a.1 in let t = b.1 in let u = b.2 in omega arith
            | inr c ↦ elim c [
              | inl b ↦ let s = a.1 in let t = b.1 in let one = inputs_one x y a.0 b.0 (omega arith) in omega arith
              | inr b ↦ let s = a.1 in let t = b.1 in let u = a.2 in omega arith
            ]
          ]
          | inr a ↦ elim (sort y within) [
            | inl b ↦ let s = a.1 in let t = b.1 in let u = b.2 in omega arith
            | inr c ↦ elim c [
              | inl b ↦ let s = a.1 in let t = b.1 in let u = b.2 in omega arith
              | inr b ↦ let s = a.1 in let t = b.1 in let one = locals_one x y a.0 b.0 (omega arith) in omega arith
            ]
          ]
        ]
      ]

  -- so there are at most two events for each message and one for each action
  pub events_few : length d.events ≤ length d.messages + (length d.messages + length d.actions)
  events_few =
      let all = tally_all (λ x. true) (λ x. refl) (length d.events) in
      let few = tally_few (length d.events) (length d.messages + (length d.messages + length d.actions)) (λ x. true) value
      (λ x y lt within p q same. values_apart x y lt within same)
      (λ x within p. elim (sort x within) [
        | inl a ↦ let s = a.1 in let t = a.2 in omega arith
        | inr e ↦ elim e [
          | inl a ↦ let s = a.1 in let t = a.2 in omega arith
          | inr a ↦ let s = a.1 in let t = a.2 in omega arith
        ]
      ]) in
      omega (arith, all, few)

-- the parts of a number in rows of c
pub parts_same : (r q a b c : ℕ) → a < c → b < c → r * c + a ≡ q * c + b → (r ≡ q) × (a ≡ b)
parts_same r q a b c p s same = (
  sym (div-mul-add r c a p) ∙ ap (λ (x : ℕ). x / c) same ∙ div-mul-add q c b s,
  sym (mod-mul-add r c a p) ∙ ap (λ (x : ℕ). x % c) same ∙ mod-mul-add q c b s,
)

module _ (n : ℕ) (d : Drawing) (accepted : IsAccepted d) where
  -- event k of n rounds is local
  abbrev acts_at : ℕ → Bool
  acts_at k = acts (kind d.events (event_of n d.events k))

  -- the local events below a number are tallied
  counted : (k : ℕ) → count_below n d.events k ≡ tally acts_at k
  counted zero = count_zero n d.events
  counted (suc k) =
      let next : k + 1 ≡ suc k = omega arith in
      omega (arith, counted k, count_more n d.events k, ap (count_below n d.events) next)

  -- n rounds have at most n times as many local events as the chart has actions
  pub locals_few : count_below n d.events (n * length d.events) ≤ n * length d.actions
  locals_few =
      let few = tally_few (n * length d.events) (n * length d.actions) acts_at
      (λ k. round_of n d.events k * length d.actions + action d.events (event_of n d.events k))
      (λ x y lt within p q same.
      let x-in : x < n * length d.events = omega arith in
      let e = local_at x x-in p in
      let f = local_at y within q in
      let parts = parts_same (round_of n d.events x) (round_of n d.events y) (action d.events (event_of n d.events x)) (action d.events (event_of n d.events y)) (length d.actions)
      (accepted.has_actions.known _ e) (accepted.has_actions.known _ f) same in
      let one = locals_one d accepted (event_of n d.events x) (event_of n d.events y) e f parts.1 in
      let is : x ≡ y = sym (number_event d.events accepted.in_text_order n x x-in) ∙ ap (λ (z : ℕ). number_of n d.events z (round_of n d.events x)) one
      ∙ ap (number_of n d.events (event_of n d.events y)) parts.0 ∙ number_event d.events accepted.in_text_order n y within in
      omega arith)
      (λ k within p.
      let known = accepted.has_actions.known _ (local_at k within p) in
      let rows : suc (round_of n d.events k) * length d.actions ≤ n * length d.actions = mul-le-mul_right (length d.actions) (round_in d.events accepted.in_text_order n k within) in
      omega (arith, known, rows, suc-mul (round_of n d.events k) (length d.actions))) in
      omega (arith, few, counted (n * length d.events))
    where
      -- its event is local
      local_at : (k : ℕ) → k < n * length d.events → acts_at k ≡ true → is_local d.events (event_of n d.events k) ≡ true
      local_at k within p = sym (local_is d.events (event_of n d.events k) (event_in d.events accepted.in_text_order n k within)) ∙ p

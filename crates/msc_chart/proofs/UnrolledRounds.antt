-- A chart is one round of itself, and n rounds of it are n rounds.
use Rattle.std.proofs.Common.{◌≡◌, ℕ, ◌+◌, ◌*◌, ◌<◌, true, length, inl, inr, refl, sym, ap, ◌∙◌, arith}
use Rattle.std.proofs.lemmas.Bool.{cases_lt}
use Rattle.msc_chart.specs.declared.queue.Queues.{Queues}
use Rattle.msc_chart.specs.Charts.{line, partner, message, is_output, before}
use Rattle.msc_chart.specs.Drawings.{Drawing, IsAccepted}
use Rattle.msc_chart.specs.Orders.{wired, queue, queue_number, sender_at, receiver_at}
use Rattle.msc_chart.specs.Rounds.{number_of, event_of, round_of, segment_in, repeated}
use Rattle.msc_chart.proofs.Drawn.{before_from, before_parts, output_parts, output_not_local}
use Rattle.msc_chart.proofs.EventNumbers.{event_in, round_in, number_in, event_number, round_number, number_event}
use Rattle.msc_chart.proofs.QueueLemmas.{ends_share, wired_from}
use Rattle.msc_chart.proofs.RoundEvents.{events_in, in_events, line_is, segment_is, partner_is, output_same, input_same, controlled_same, segment_earlier, segment_within}
use Rattle.msc_chart.proofs.RoundPartners.{partner_in, partner_event, rounds_matched}
use Rattle.msc_chart.proofs.RoundMessages.{message_of_round, rounds_messages}
use Rattle.msc_chart.proofs.UnrolledCharts.{HasRounds, IsAbove, queue_in}

-- the queue of an event of the chart is its queue in round 0
pub queue_here : (queues : Queues) (d : Drawing) (k : ℕ) → queue (wired queues d) k ≡ queue_in queues d k 0
unfolding queue queue_in
queue_here queues d k =
    let same : message d.events k ≡ 0 * length d.messages + message d.events k = omega arith in
    ap (queue_number queues (length d.instances) (sender_at d.events k) (receiver_at d.events k)) same

-- a chart is one round of itself
abbrev pub one_round : (queues : Queues) (d : Drawing) → IsAccepted d → HasRounds queues d 1 (wired queues d)
one_round queues d accepted = record {
  event_at = λ k. k;
  round_at = λ k. 0;
  number_at = λ e r. e;
  accepted = accepted;
  is_wired = ends_share queues d accepted;
  event_in = λ k within. within;
  round_in = λ k within. omega arith;
  back = λ k within. refl;
  number_in = λ e r within round. within;
  event_is = λ e r within round. refl;
  round_is = λ e r within round. omega arith;
  line_is = λ k within. refl;
  output = λ k within. refl;
  input = λ k within. refl;
  controlled = λ k within. refl;
  other = λ k within. refl;
  above = λ x y h. ((before_parts d.events x y h).2, inr (refl, h));
  drawn_so = λ x y x-in y-in up. elim up.1 [ inl lt ↦ absurd (omega arith) | inr same ↦ same.1 ];
  queue_is = λ k o. queue_here queues d k;
}

module _ (queues : Queues) (n : ℕ) (d : Drawing) (accepted : IsAccepted d) where
  -- the sender of the message of an event is that of its event
  sender_is : (k : ℕ) → k < n * length d.events → sender_at (repeated n d).events k ≡ sender_at d.events (event_of n d.events k)
  unfolding sender_at
  sender_is k within =
      let m = length d.messages in
      let there = partner_in n m d.events accepted.in_text_order accepted.matched k within in
      rw (
        output_same n m d.events accepted.in_text_order k within,
        line_is n m d.events k within,
        line_is n m d.events (partner (repeated n d).events k) there,
        partner_event n m d.events accepted.in_text_order accepted.matched k within,
      ) refl

  -- so is the receiver
  receiver_is : (k : ℕ) → k < n * length d.events → receiver_at (repeated n d).events k ≡ receiver_at d.events (event_of n d.events k)
  unfolding receiver_at
  receiver_is k within =
      let m = length d.messages in
      let there = partner_in n m d.events accepted.in_text_order accepted.matched k within in
      rw (
        output_same n m d.events accepted.in_text_order k within,
        line_is n m d.events k within,
        line_is n m d.events (partner (repeated n d).events k) there,
        partner_event n m d.events accepted.in_text_order accepted.matched k within,
      ) refl

  -- so the queue of an output is that of its event in its round
  pub queue_there : (k : ℕ) → is_output (repeated n d).events k ≡ true → queue (wired queues (repeated n d)) k ≡ queue_in queues d (event_of n d.events k) (round_of n d.events k)
  unfolding queue queue_in
  queue_there k o =
      let within = events_in n (length d.messages) d.events k (output_parts (repeated n d).events k o).0 in
      let out : is_output d.events (event_of n d.events k) ≡ true = sym (output_same n (length d.messages) d.events accepted.in_text_order k within) ∙ o in
      let subject = message_of_round n d accepted k within (output_not_local d.events (event_of n d.events k) out) in
      ap (λ (x : ℕ). queue_number queues (length d.instances) x (receiver_at (repeated n d).events k) (message (repeated n d).events k)) (sender_is k within)
      ∙ ap (λ (x : ℕ). queue_number queues (length d.instances) (sender_at d.events (event_of n d.events k)) x (message (repeated n d).events k)) (receiver_is k within)
      ∙ ap (queue_number queues (length d.instances) (sender_at d.events (event_of n d.events k)) (receiver_at d.events (event_of n d.events k))) subject

  -- what is drawn before another
  pub above : (x y : ℕ) → before (repeated n d).events x y ≡ true → IsAbove d (event_of n d.events x) (round_of n d.events x) (event_of n d.events y) (round_of n d.events y)
  above x y h =
      let m = length d.messages in
      let ordered = accepted.in_text_order in
      let p = before_parts (repeated n d).events x y h in
      let x-in = events_in n m d.events x p.0 in
      let y-in = events_in n m d.events y p.1 in
      let e = event_of n d.events x in
      let f = event_of n d.events y in
      let r = round_of n d.events x in
      let q = round_of n d.events y in
      let f-in = event_in d.events ordered n y y-in in
      let on : line d.events e ≡ line d.events f = sym (line_is n m d.events x x-in) ∙ p.2 ∙ line_is n m d.events y y-in in
      let up : segment_in d.events e r < segment_in d.events f q =
      (let s = p.3 in omega (arith, s, segment_is n m d.events x x-in, segment_is n m d.events y y-in)) in (
        on,
        elim (cases_lt r q) [
          | inl lt ↦ inl lt
          | inr ge ↦ elim (cases_lt q r) [
            | inl back ↦ let down = segment_earlier d.events ordered f e q r f-in (sym on) back in absurd (omega (arith, up, down))
            | inr le ↦
                let same : r ≡ q = omega arith in
                let one : segment_in d.events e q < segment_in d.events f q = (let s = ap (segment_in d.events e) same in omega (arith, up, s)) in
                inr (same, before_from d.events e f (event_in d.events ordered n x x-in) f-in on ((segment_within d.events ordered e f q on).2 one))
          ]
        ],
      )

  -- and back
  pub drawn_so : (x y : ℕ) → x < length (repeated n d).events → y < length (repeated n d).events
      → IsAbove d (event_of n d.events x) (round_of n d.events x) (event_of n d.events y) (round_of n d.events y) → before (repeated n d).events x y ≡ true
  drawn_so x y x-here y-here up =
      let m = length d.messages in
      let x-in = events_in n m d.events x x-here in
      let y-in = events_in n m d.events y y-here in
      let e = event_of n d.events x in
      let f = event_of n d.events y in
      let e-in = event_in d.events accepted.in_text_order n x x-in in
      let higher : segment_in d.events e (round_of n d.events x) < segment_in d.events f (round_of n d.events y) =
      elim up.1 [
        | inl lt ↦ segment_earlier d.events accepted.in_text_order e f (round_of n d.events x) (round_of n d.events y) e-in up.0 lt
        | inr same ↦
            let below = (segment_within d.events accepted.in_text_order e f (round_of n d.events x) up.0).0 (before_parts d.events e f same.1).3 in
            let row = ap (segment_in d.events f) same.0 in
            omega (arith, below, row)
      ] in
      before_from (repeated n d).events x y x-here y-here
      (line_is n m d.events x x-in ∙ up.0 ∙ sym (line_is n m d.events y y-in))
      (omega (arith, higher, segment_is n m d.events x x-in, segment_is n m d.events y y-in))

-- and n rounds of it are n rounds
abbrev pub rounds_of : (queues : Queues) (d : Drawing) → IsAccepted d → (n : ℕ) → HasRounds queues d n (wired queues (repeated n d))
rounds_of queues d accepted n = record {
  event_at = event_of n d.events;
  round_at = round_of n d.events;
  number_at = number_of n d.events;
  accepted = accepted;
  is_wired = wired_from queues (repeated n d) (rounds_matched n (length d.messages) d.events accepted.in_text_order accepted.matched) (rounds_messages n d accepted).shared;
  event_in = λ k within. event_in d.events accepted.in_text_order n k (events_in n (length d.messages) d.events k within);
  round_in = λ k within. round_in d.events accepted.in_text_order n k (events_in n (length d.messages) d.events k within);
  back = λ k within. number_event d.events accepted.in_text_order n k (events_in n (length d.messages) d.events k within);
  number_in = λ e r within round. in_events n (length d.messages) d.events (number_of n d.events e r) (number_in d.events accepted.in_text_order n e r within round);
  event_is = λ e r within round. event_number d.events accepted.in_text_order n e r within round;
  round_is = λ e r within round. round_number d.events accepted.in_text_order n e r within round;
  line_is = λ k within. line_is n (length d.messages) d.events k (events_in n (length d.messages) d.events k within);
  output = λ k within. output_same n (length d.messages) d.events accepted.in_text_order k (events_in n (length d.messages) d.events k within);
  input = λ k within. input_same n (length d.messages) d.events accepted.in_text_order k (events_in n (length d.messages) d.events k within);
  controlled = λ k within. controlled_same n (length d.messages) d.events accepted.in_text_order k (events_in n (length d.messages) d.events k within);
  other = λ k within. partner_is n (length d.messages) d.events k (events_in n (length d.messages) d.events k within);
  above = above queues n d accepted;
  drawn_so = drawn_so queues n d accepted;
  queue_is = queue_there queues n d accepted;
}

-- The partners of the events of several rounds: each is in the round of its event.
use Rattle.std.proofs.Common.{◌≡◌, ℕ, ◌*◌, ◌<◌, List, length, sym, ap, ◌∙◌, arith}
use Rattle.msc_chart.specs.declared.event.ChartEvent.{ChartEvent}
use Rattle.msc_chart.specs.Charts.{partner, is_output, IsMatched, IsInTextOrder}
use Rattle.msc_chart.specs.Rounds.{number_of, event_of, round_of, repeated_events}
use Rattle.msc_chart.proofs.Drawn.{local_parts}
use Rattle.msc_chart.proofs.EventNumbers.{event_in, round_in, number_in, event_number, round_number, number_event}
use Rattle.msc_chart.proofs.RoundEvents.{events_in, in_events, partner_is, output_same, input_same, local_same}

module _ (n m : ℕ) (events : List ChartEvent) (ordered : IsInTextOrder events) (matched : IsMatched events) (k : ℕ) (within : k < n * length events) where
  -- the partner of its event is an event of the chart
  other_in : partner events (event_of n events k) < length events
  other_in = matched.in_range (event_of n events k) (event_in events ordered n k within)

  -- so its own partner is one of n rounds
  pub partner_in : partner (repeated_events n m events) k < n * length events
  partner_in =
      let known = number_in events ordered n (partner events (event_of n events k)) (round_of n events k) other_in (round_in events ordered n k within) in
      omega (arith, known, partner_is n m events k within)

  -- of which the event is the partner of its event
  pub partner_event : event_of n events (partner (repeated_events n m events) k) ≡ partner events (event_of n events k)
  partner_event =
      ap (event_of n events) (partner_is n m events k within)
      ∙ event_number events ordered n (partner events (event_of n events k)) (round_of n events k) other_in (round_in events ordered n k within)

  -- in the same round
  pub partner_round : round_of n events (partner (repeated_events n m events) k) ≡ round_of n events k
  partner_round =
      ap (round_of n events) (partner_is n m events k within)
      ∙ round_number events ordered n (partner events (event_of n events k)) (round_of n events k) other_in (round_in events ordered n k within)

-- partners lead to and fro in each round
pub rounds_matched : (n m : ℕ) (events : List ChartEvent) → IsInTextOrder events → IsMatched events → IsMatched (repeated_events n m events)
rounds_matched n m events ordered matched = record {
  in_range = λ k within. in_events n m events (partner (repeated_events n m events) k) (partner_in n m events ordered matched k (events_in n m events k within));
  to_and_fro = λ k within.
      let k-in = events_in n m events k within in
      let e = event_of n events k in
      partner_is n m events (partner (repeated_events n m events) k) (partner_in n m events ordered matched k k-in)
      ∙ ap (λ (x : ℕ). number_of n events (partner events x) (round_of n events (partner (repeated_events n m events) k))) (partner_event n m events ordered matched k k-in)
      ∙ ap (λ (x : ℕ). number_of n events (partner events (partner events e)) x) (partner_round n m events ordered matched k k-in)
      ∙ ap (λ (x : ℕ). number_of n events x (round_of n events k)) (matched.to_and_fro e (event_in events ordered n k k-in))
      ∙ number_event events ordered n k k-in;
  other_kind = λ k within.
      let k-in = events_in n m events k within in
      output_same n m events ordered (partner (repeated_events n m events) k) (partner_in n m events ordered matched k k-in)
      ∙ ap (is_output events) (partner_event n m events ordered matched k k-in)
      ∙ matched.other_kind (event_of n events k) (event_in events ordered n k k-in)
      ∙ sym (input_same n m events ordered k k-in);
  own = λ k local.
      let k-in = events_in n m events k (local_parts (repeated_events n m events) k local).0 in
      partner_is n m events k k-in
      ∙ ap (λ (x : ℕ). number_of n events x (round_of n events k)) (matched.own (event_of n events k) (sym (local_same n m events ordered k k-in) ∙ local))
      ∙ number_event events ordered n k k-in;
}

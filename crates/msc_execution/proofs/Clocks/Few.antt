-- The messages that are put are no more than the messages of the chart.
use Rattle.std.proofs.Common.{◌≡◌, ℕ, ◌<◌, ◌≤◌, true, List, [], map, length, get_or, sym, ap, ◌∙◌, subst, arith}
use Rattle.std.specs.List.{concat, range_with_len}
use Rattle.std.proofs.lemmas.List.{length-map}
use Rattle.std.proofs.lemmas.List.FromFn.{length-range_with_len}
use Rattle.msc_chart.specs.declared.queue.Queues.{Queues}
use Rattle.msc_chart.specs.Lists.{occurs}
use Rattle.msc_chart.specs.Charts.{message, is_output}
use Rattle.msc_chart.specs.Drawings.{Drawing, IsAccepted, output_of}
use Rattle.msc_chart.specs.Orders.{wired}
use Rattle.msc_chart.proofs.Drawn.{output_not_local}
use Rattle.msc_execution.specs.Clocks.{Places}
use Rattle.msc_execution.specs.Timed.{IsTimed, all_puts}
use Rattle.msc_execution.proofs.Lists.Words.{passes, unmapped, once_filter, once_map}
use Rattle.msc_execution.proofs.Lists.Ranges.{range_has}
use Rattle.msc_execution.proofs.Wiring.Fitted.{pigeons}
use Rattle.msc_gather.proofs.Distinct.{distinct_of_once, IsDistinct-concat, of_concat}
use Rattle.msc_chart.proofs.ListLemmas.{IsDistinct}

module _ (queues : Queues) (d : Drawing) (accepted : IsAccepted d) (logs : List (List ℕ))
    (places : Places)
    (timed : IsTimed (wired queues d) (length d.instances) logs places) where
  -- the logs hold no event twice
  logs_apart : IsDistinct (concat logs)
  logs_apart =
      let many = timed.lines.as_many in
      IsDistinct-concat logs (λ i below.
      (distinct_of_once [] (get_or logs i []) (timed.lines.once i (omega arith))).0)
      (λ i j e bi bj hi hj. sym (timed.lines.known i e (omega arith) hi).1
      ∙ (timed.lines.known j e (omega arith) hj).1)

  -- what is put is an output, of a message of the chart
  put_output : (s : ℕ) → occurs (all_puts (wired queues d) logs) s ≡ true
      → (is_output d.events s ≡ true) × (message d.events s < length d.messages)
  unfolding all_puts
  put_output s h =
      let many = timed.lines.as_many in
      let p = passes (is_output d.events) (concat logs) s h in
      let w = of_concat logs s p.0 in
      let i : ℕ = w.0 in
      let below : i < length logs = w.1 in
      let within = (timed.lines.known i s (omega arith) w.2).0 in
      (p.1, accepted.has_messages.known s within (output_not_local d.events s p.1))

  -- each is put once
  puts_apart : IsDistinct (all_puts (wired queues d) logs)
  unfolding all_puts
  puts_apart = once_filter (is_output d.events) (concat logs) logs_apart

  -- so they are no more than the messages of the chart
  pub few_puts : length (all_puts (wired queues d) logs) ≤ length d.messages
  few_puts =
      let puts : List ℕ = all_puts (wired queues d) logs in
      let apart : IsDistinct (map (message d.events) puts) =
      once_map (message d.events) puts (λ x y a b same.
      sym (accepted.has_messages.back x (put_output x a).0) ∙ ap (output_of d) same
      ∙ accepted.has_messages.back y (put_output y b).0) puts_apart in
      let bound =
      pigeons (map (message d.events) puts) (range_with_len 0 (length d.messages)) apart
      (λ m there.
      let (s, s_in, s_of) = unmapped (message d.events) puts m there in
      let small : m < length d.messages =
      subst (λ (z : ℕ). z < length d.messages) s_of (put_output s s_in).1 in
      range_has 0 (length d.messages) m (omega arith) (omega arith)) in
      let same = length-map puts (message d.events) in
      let all = length-range_with_len 0 (length d.messages) in
      omega (arith, bound, same, all)

-- Charts that are several rounds of one chart: their queues.
use Rattle.std.proofs.Common.{◌≡◌, ℕ, ◌<◌, true, inl, inr, length, sym, ap, ◌∙◌, arith}
use Rattle.msc_chart.specs.declared.queue.Queues.{Queues}
use Rattle.msc_chart.specs.Charts.{partner, message, is_output, is_input}
use Rattle.msc_chart.specs.Drawings.{Drawing, IsAccepted}
use Rattle.msc_chart.specs.Orders.{WiredChart, wired, queue}
use Rattle.msc_chart.proofs.Drawn.{input_parts, output_not_local, output_parts, partner_of_input}
use Rattle.msc_chart.proofs.QueueLemmas.{ends_share, inputs_share}
use Rattle.msc_chart.proofs.UnrolledRounds.{queue_here}
use Rattle.msc_chart.proofs.UnrolledCharts.{HasRounds, partner_is, queue_in, queue_in_rounds}
use Rattle.msc_ready.proofs.Runs.Keeping.{HaveOneLine}

-- two events of an accepted chart that have messages, in rounds i and j, whose messages share a queue
module _ (queues : Queues) (d : Drawing) (accepted : IsAccepted d) (e f i j : ℕ) (e_in : e < length d.events) (f_in : f < length d.events) (e_known : message d.events e < length d.messages) (f_known : message d.events f < length d.messages) (same : queue_in queues d e i ≡ queue_in queues d f j) where
  -- they do so in the first round
  queue_alone : queue_in queues d e 0 ≡ queue_in queues d f 0
  queue_alone = elim (queue_in_rounds d accepted e f i j e_in f_in e_known f_known queues same) [
    | inl any ↦ (any 0 0).0
    | inr one ↦ one.1 0
  ]

  -- and where the rounds differ, in whatever rounds they are
  pub queue_apart : i < j → (k l : ℕ) → (queue_in queues d e k ≡ queue_in queues d f l) × (queue_in queues d e k ≡ queue_in queues d e l)
  queue_apart apart k l = elim (queue_in_rounds d accepted e f i j e_in f_in e_known f_known queues same) [
    | inl any ↦ any k l
    | inr one ↦ let round = one.0 in absurd (omega (arith, apart, round))
  ]

module _ {queues : Queues} {d : Drawing} {n : ℕ} {chart : WiredChart} (a : HasRounds queues d n chart) where
  -- the output of an input is one of the chart, in the same round
  pub output_of : (k : ℕ) → is_input chart.events k ≡ true
      → (is_output d.events (partner d.events (a.event_at k)) ≡ true) × (queue chart k ≡ queue_in queues d (partner d.events (a.event_at k)) (a.round_at k))
  output_of k i =
      let within = (input_parts chart.events k i).0 in
      let o = partner_of_input chart.events a.is_wired.matched k i in
      let other = partner_is a k within in (
        ap (is_output d.events) (sym other.2) ∙ sym (a.output (partner chart.events k) other.0) ∙ o,
        sym (a.is_wired.one_queue k within) ∙ a.queue_is (partner chart.events k) o
            ∙ ap (λ (e : ℕ). queue_in queues d e (a.round_at (partner chart.events k))) other.2
            ∙ ap (queue_in queues d (partner d.events (a.event_at k))) other.1,
      )

  -- so its message is one of the chart
  pub message_known : (k : ℕ) → is_input chart.events k ≡ true → message d.events (partner d.events (a.event_at k)) < length d.messages
  message_known k i =
      let o = (output_of k i).0 in
      a.accepted.has_messages.known (partner d.events (a.event_at k)) (output_parts d.events (partner d.events (a.event_at k)) o).0 (output_not_local d.events (partner d.events (a.event_at k)) o)

  -- and it is an event
  pub output_in : (k : ℕ) → is_input chart.events k ≡ true → partner d.events (a.event_at k) < length d.events
  output_in k i = (output_parts d.events (partner d.events (a.event_at k)) (output_of k i).0).0

  -- the event of an input is an input
  pub input_at : (k : ℕ) → is_input chart.events k ≡ true → is_input d.events (a.event_at k) ≡ true
  input_at k i = sym (a.input k (input_parts chart.events k i).0) ∙ i

  -- the queue of an input's event
  alone_at : (k : ℕ) → is_input chart.events k ≡ true → queue (wired queues d) (a.event_at k) ≡ queue_in queues d (partner d.events (a.event_at k)) 0
  alone_at k i =
      sym ((ends_share queues d a.accepted).one_queue (a.event_at k) (a.event_in k (input_parts chart.events k i).0))
      ∙ queue_here queues d (partner d.events (a.event_at k))

  -- the inputs of a queue are on one line
  pub one_line : HaveOneLine chart
  one_line r u ir iu same =
      let there = sym (output_of r ir).1 ∙ same ∙ (output_of u iu).1 in
      let alone = queue_alone queues d a.accepted (partner d.events (a.event_at r)) (partner d.events (a.event_at u)) (a.round_at r) (a.round_at u) (output_in r ir) (output_in u iu) (message_known r ir) (message_known u iu) there in
      a.line_is r (input_parts chart.events r ir).0
      ∙ inputs_share queues d a.accepted (a.event_at r) (a.event_at u) (input_at r ir) (input_at u iu) (alone_at r ir ∙ alone ∙ sym (alone_at u iu))
      ∙ sym (a.line_is u (input_parts chart.events u iu).0)

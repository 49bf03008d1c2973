-- What a log sends and takes, message by message.
use Rattle.std.proofs.Common.{◌≡◌, ℕ, ◌<◌, true, eqb, List, [], length, map, sym, ap, ◌∙◌, subst}
use Rattle.std.proofs.lemmas.Bool.{eq-eqb, eqb-true}
use Rattle.msc_chart.specs.declared.queue.Queues.{Queues}
use Rattle.msc_chart.specs.Lists.{occurs}
use Rattle.msc_chart.specs.Charts.{line, message, is_output, is_input}
use Rattle.msc_chart.specs.Drawings.{Drawing, IsAccepted, output_of, input_of, sender_of}
use Rattle.msc_chart.specs.Orders.{queue_of}
use Rattle.msc_chart.proofs.Drawn.{output_not_local, partner_of_output}
use Rattle.msc_chart.proofs.Readers.{output_in}
use Rattle.msc_execution.specs.Logs.{IsLogOf, outputs, inputs, outputs_at, inputs_at, sent, received}
use Rattle.msc_execution.proofs.Lists.Words.{passes, kept, mapped, unmapped, once_filter, once_map, steps_once}
use Rattle.msc_chart.proofs.ListLemmas.{IsDistinct}

-- a message of the chart, in a queue, from a sender
pub record IsOf (queues : Queues) (d : Drawing) (q i m : ℕ) : Type 0 where
  pub known : m < length d.messages
  pub queue : queue_of queues d m ≡ q
  pub sender : sender_of d m ≡ i

module _ (queues : Queues) (d : Drawing) where
  -- an output of a log to a queue is an output in the log, and its message goes there
  pub output_at : (q : ℕ) (log : List ℕ) (e : ℕ) → occurs (outputs_at queues d q log) e ≡ true
      → (occurs log e ≡ true) × (is_output d.events e ≡ true)
      × (queue_of queues d (message d.events e) ≡ q)
  output_at q log e h =
      let p = passes (λ x. eqb (queue_of queues d (message d.events x)) q) (outputs d log) e h in
      let o = passes (is_output d.events) log e p.0 in
      (o.0, o.1, eqb-true (queue_of queues d (message d.events e)) q p.1)

  -- and the other way round
  pub output_there : (q : ℕ) (log : List ℕ) (e : ℕ) → occurs log e ≡ true
      → is_output d.events e ≡ true
      → queue_of queues d (message d.events e) ≡ q → occurs (outputs_at queues d q log) e ≡ true
  output_there q log e there output at =
      kept (λ x. eqb (queue_of queues d (message d.events x)) q) (outputs d log) e
      (kept (is_output d.events) log e there output)
      (eq-eqb (queue_of queues d (message d.events e)) q at)

  -- and the other way round
  pub input_there : (q : ℕ) (log : List ℕ) (e : ℕ) → occurs log e ≡ true
      → is_input d.events e ≡ true
      → queue_of queues d (message d.events e) ≡ q → occurs (inputs_at queues d q log) e ≡ true
  input_there q log e there input at =
      kept (λ x. eqb (queue_of queues d (message d.events x)) q) (inputs d log) e
      (kept (is_input d.events) log e there input)
      (eq-eqb (queue_of queues d (message d.events e)) q at)

module _ (queues : Queues) (d : Drawing) (accepted : IsAccepted d) where
  -- what an instance sends is a message of the chart that it sends
  pub sent_is : (q i : ℕ) (log : List ℕ) (m : ℕ) → IsLogOf d i log
      → occurs (sent queues d q log) m ≡ true → IsOf queues d q i m
  unfolding sender_of
  sent_is q i log m is h =
      let (e, e_in, e_of) = unmapped (message d.events) (outputs_at queues d q log) m h in
      let o = output_at queues d q log e e_in in
      let on = is.on_line e o.0 in
      record {
        known =
            subst (λ (k : ℕ). k < length d.messages) e_of
            (accepted.has_messages.known e on.0 (output_not_local d.events e o.1));
        queue = ap (queue_of queues d) (sym e_of) ∙ o.2;
        sender =
            ap (λ (k : ℕ). line d.events (output_of d k)) (sym e_of)
            ∙ ap (line d.events) (accepted.has_messages.back e o.1) ∙ on.1;
      }

  -- each message once
  pub sent_once : (q i : ℕ) (log : List ℕ) → IsLogOf d i log → IsDistinct (sent queues d q log)
  sent_once q i log is =
      let once = (steps_once d [] log is.steps).0 in
      once_map (message d.events) (outputs_at queues d q log)
      (λ e g in_e in_g same.
      let oe = output_at queues d q log e in_e in
      let og = output_at queues d q log g in_g in
      sym (accepted.has_messages.back e oe.1) ∙ ap (output_of d) same
      ∙ accepted.has_messages.back g og.1)
      (once_filter (λ x. eqb (queue_of queues d (message d.events x)) q) (outputs d log)
      (once_filter (is_output d.events) log once))

  -- the input of a message is an input, of that message
  pub input_is : (m : ℕ) → m < length d.messages
      → (is_input d.events (input_of d m) ≡ true) × (message d.events (input_of d m) ≡ m)
  unfolding input_of
  input_is m below = (
    partner_of_output d.events accepted.matched (output_of d m)
        (accepted.has_messages.output m below),
    accepted.has_messages.shared (output_of d m) (output_in d accepted m below)
        ∙ accepted.has_messages.own m below,
  )

  -- where a log has the input of a message, the message is taken
  pub taken_by : (q : ℕ) (log : List ℕ) (m : ℕ) → m < length d.messages → queue_of queues d m ≡ q
      → occurs log (input_of d m) ≡ true
      → occurs (received queues d q log) m ≡ true
  taken_by q log m below at logged =
      let i = input_is m below in
      let there =
      input_there queues d q log (input_of d m) logged i.0 (ap (queue_of queues d) i.1 ∙ at) in
      ap (occurs (map (message d.events) (inputs_at queues d q log))) (sym i.1)
      ∙ mapped (message d.events) (inputs_at queues d q log) (input_of d m) there

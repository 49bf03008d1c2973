-- The queues of a chart: their numbers, their messages, and the one instance that takes from each.
use Rattle.std.proofs.Common.{◌≡◌, ℕ, ◌<◌, Bool, true, cond, eqb, List, [], ◌∷◌, length, filter, refl, sym, ap, ◌∙◌, arith, subst, inl, inr}
use Rattle.std.specs.Prelude.{nat_lt}
use Rattle.std.specs.List.{range_with_len, list_any}
use Rattle.std.proofs.lemmas.Bool.{eq-eqb, eqb-true, lt-ltb, or_left, or_right}
use Rattle.msc_chart.specs.declared.queue.Queues.{Queues}
use Rattle.msc_chart.specs.Lists.{occurs}
use Rattle.msc_chart.specs.Drawings.{Drawing, IsAccepted, sender_of, receiver_of, output_of}
use Rattle.msc_chart.specs.Orders.{queue_of, queue_bound, wired, queue}
use Rattle.msc_chart.specs.Laws.{messages_in, sends_to}
use Rattle.msc_chart.proofs.ListLemmas.{by_test, occurs-head}
use Rattle.msc_chart.proofs.Drawn.{output_parts, output_not_local}
use Rattle.msc_chart.proofs.QueueLemmas.{bounded, number_bounded, event_queue}
use Rattle.msc_chart.proofs.Readers.{receiver_in}
use Rattle.msc_execution.specs.Roles.{role, queues_below, queues_in, takes_from, sent_queues, taken_queues}
use Rattle.msc_execution.proofs.Lists.Words.{head_or_tail, in_none, passes, kept}
use Rattle.msc_execution.proofs.Lists.Ranges.{twice_yes, twice_no, one_of_range, in_range, range_has, any_same, some_first}

-- a queue with a message: its number is below n, and it has a message
pub in_below : (queues : Queues) (d : Drawing) (n q : ℕ) → occurs (queues_below queues d n) q ≡ true
    → (q < n) × (nat_lt 0 (length (messages_in queues d q)) ≡ true)
unfolding queues_below
in_below queues d n q h =
    let r = passes (λ k. nat_lt 0 (length (messages_in queues d k))) (range_with_len 0 n) q h in
    let w = in_range 0 n q r.0 in
    (omega (arith, w.1), r.1)

-- its number stands there once
pub one_below : (queues : Queues) (d : Drawing) (n q : ℕ)
    → occurs (queues_below queues d n) q ≡ true
    → filter (λ k. eqb k q) (queues_below queues d n) ≡ q ∷ []
unfolding queues_below
one_below queues d n q h =
    let r = passes (λ k. nat_lt 0 (length (messages_in queues d k))) (range_with_len 0 n) q h in
    let w = in_range 0 n q r.0 in
    twice_yes (λ k. nat_lt 0 (length (messages_in queues d k))) q (range_with_len 0 n) r.1
    ∙ one_of_range q 0 n (omega arith) (omega (arith, w.1))

-- among those that pass a test it stands once or not at all
one_kept : (p : ℕ → Bool) (q : ℕ) (xs : List ℕ) → filter (λ k. eqb k q) xs ≡ q ∷ []
    → filter (λ k. eqb k q) (filter p xs) ≡ cond (p q) (q ∷ []) []
one_kept p q xs one =
    by_test (p q)
    (λ yes. twice_yes p q xs yes ∙ one ∙ sym (ap (λ (b : Bool). cond b (q ∷ []) []) yes))
    (λ no. twice_no p q xs no ∙ sym (ap (λ (b : Bool). cond b (q ∷ []) []) no))

-- an instance that sends to a queue has its number once among those to which it sends
pub one_sent : (queues : Queues) (d : Drawing) (i q : ℕ) → occurs (queues_in queues d) q ≡ true
    → filter (λ k. eqb k q) (sent_queues (role queues d i))
    ≡ cond (sends_to queues d q i) (q ∷ []) []
unfolding sent_queues
one_sent queues d i q h =
    one_kept (λ k. sends_to queues d k i) q (queues_in queues d)
    (one_below queues d (queue_bound queues d) q h)

-- and one that takes from it among those from which it takes
pub one_taken : (queues : Queues) (d : Drawing) (i q : ℕ) → occurs (queues_in queues d) q ≡ true
    → filter (λ k. eqb k q) (taken_queues (role queues d i))
    ≡ cond (takes_from queues d q i) (q ∷ []) []
unfolding taken_queues
one_taken queues d i q h =
    one_kept (λ k. takes_from queues d k i) q (queues_in queues d)
    (one_below queues d (queue_bound queues d) q h)

-- a message of a queue is a message of the chart whose queue this is
pub in_messages : (queues : Queues) (d : Drawing) (q m : ℕ)
    → occurs (messages_in queues d q) m ≡ true → (m < length d.messages) × (queue_of queues d m ≡ q)
unfolding messages_in
in_messages queues d q m h =
    let r = passes (λ k. eqb (queue_of queues d k) q) (range_with_len 0 (length d.messages)) m h in
    let w = in_range 0 (length d.messages) m r.0 in
    (omega (arith, w.1), eqb-true _ _ r.1)

-- where an element passes, some element does
any_true : (g : ℕ → Bool) (ms : List ℕ) (m : ℕ) → occurs ms m ≡ true → g m ≡ true
    → list_any g ms ≡ true
any_true g [] m h pass = in_none m h
any_true g (x ∷ ms) m h pass = elim (head_or_tail x ms m h) [
  | inl is ↦ or_left (g x) (list_any g ms) (ap g is ∙ pass)
  | inr later ↦ or_right (g x) (list_any g ms) (any_true g ms m later pass)
]

-- where something occurs the list is not empty
some : (ms : List ℕ) (m : ℕ) → occurs ms m ≡ true → nat_lt 0 (length ms) ≡ true
some [] m h = in_none m h
some (x ∷ ms) m h = lt-ltb 0 (length (x ∷ ms)) (omega arith)

-- the number of a message's queue is below the bound
number_below : (queues : Queues) (d : Drawing) (m : ℕ) → IsAccepted d → m < length d.messages
    → queue_of queues d m < queue_bound queues d
number_below queues d m accepted below =
    let output = accepted.has_messages.output m below in
    let within = (output_parts d.events (output_of d m) output).0 in
    let away = output_not_local d.events (output_of d m) output in
    let same : queue (wired queues d) (output_of d m) ≡ queue_of queues d m =
    event_queue queues d accepted (output_of d m) within away
    ∙ ap (queue_of queues d) (accepted.has_messages.own m below) in
    subst (λ (k : ℕ). k < queue_bound queues d) same
    (number_bounded queues d (output_of d m) accepted within away)

-- a number below n with a message is among the queues below n
below_has : (queues : Queues) (d : Drawing) (n q : ℕ) → q < n
    → nat_lt 0 (length (messages_in queues d q)) ≡ true → occurs (queues_below queues d n) q ≡ true
unfolding queues_below
below_has queues d n q lt h =
    kept (λ k. nat_lt 0 (length (messages_in queues d k))) (range_with_len 0 n) q
    (range_has 0 n q (omega arith) (omega arith)) h

-- a message is among those of its queue
pub messages_has : (queues : Queues) (d : Drawing) (m : ℕ) → m < length d.messages
    → occurs (messages_in queues d (queue_of queues d m)) m ≡ true
unfolding messages_in
messages_has queues d m lt =
    kept (λ k. eqb (queue_of queues d k) (queue_of queues d m))
    (range_with_len 0 (length d.messages)) m
    (range_has 0 (length d.messages) m (omega arith) (omega arith))
    (eq-eqb (queue_of queues d m) (queue_of queues d m) refl)

-- the queue of a message is one of the chart's
pub queues_have : (queues : Queues) (d : Drawing) (q m : ℕ) → IsAccepted d → m < length d.messages
    → queue_of queues d m ≡ q
    → occurs (queues_in queues d) q ≡ true
queues_have queues d q m accepted lt at =
    subst (λ (k : ℕ). occurs (queues_in queues d) k ≡ true) at
    (below_has queues d (queue_bound queues d) (queue_of queues d m)
    (number_below queues d m accepted lt)
    (some (messages_in queues d (queue_of queues d m)) m (messages_has queues d m lt)))

-- the queue of a message is one to which its sender sends
pub sent_has : (queues : Queues) (d : Drawing) (i m : ℕ) → IsAccepted d → m < length d.messages
    → sender_of d m ≡ i
    → occurs (sent_queues (role queues d i)) (queue_of queues d m) ≡ true
unfolding sent_queues sends_to
sent_has queues d i m accepted lt from =
    let q : ℕ = queue_of queues d m in
    let there = messages_has queues d m lt in
    kept (λ k. sends_to queues d k i) (queues_in queues d) q
    (queues_have queues d q m accepted lt refl)
    (any_true (λ k. eqb (sender_of d k) i) (messages_in queues d q) m there
    (eq-eqb (sender_of d m) i from))

-- the one instance that takes from a queue
pub record IsReceiver (queues : Queues) (d : Drawing) (q r : ℕ) : Type 0 where
  pub within : r < length d.instances
  pub takes : (i : ℕ) → takes_from queues d q i ≡ eqb i r
  pub all : (m : ℕ) → m < length d.messages → queue_of queues d m ≡ q → receiver_of d m ≡ r

-- it is the receiver of the queue's first message
receiver_from : (queues : Queues) (d : Drawing) (q m : ℕ) (ms : List ℕ) → IsAccepted d
    → messages_in queues d q ≡ m ∷ ms → IsReceiver queues d q (receiver_of d m)
unfolding takes_from
receiver_from queues d q m ms accepted is =
    let first = in_messages queues d q m (ap (λ (l : List ℕ). occurs l m) is ∙ occurs-head m ms) in
    let all : (k : ℕ) → k < length d.messages → queue_of queues d k ≡ q
    → receiver_of d k ≡ receiver_of d m =
    λ k k_in k_at. (bounded queues d m accepted first.0).one_receiver k m k_in first.0
    (k_at ∙ sym first.1) refl in
    record {
      within = receiver_in d accepted m first.0;
      takes = λ i.
          ap (list_any (λ k. eqb (receiver_of d k) i)) is
          ∙ any_same (receiver_of d) (receiver_of d m) i m ms (λ k k_in.
          let p = in_messages queues d q k (ap (λ (l : List ℕ). occurs l k) is ∙ k_in) in
          all k p.0 p.1);
      all = all;
    }

-- each queue with a message has one
pub the_receiver : (queues : Queues) (d : Drawing) (q : ℕ) → IsAccepted d
    → occurs (queues_in queues d) q ≡ true → (r : ℕ) × IsReceiver queues d q r
the_receiver queues d q accepted here =
    let first =
    some_first (messages_in queues d q) (in_below queues d (queue_bound queues d) q here).1 in
    (receiver_of d first.0, receiver_from queues d q first.0 first.1 accepted first.2)

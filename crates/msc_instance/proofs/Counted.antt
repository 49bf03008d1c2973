-- Tables of the messages of a chart.
use Rattle.std.proofs.Common.{◌≡◌, ℕ, ◌+◌, ◌*◌, ◌<◌, ◌≤◌, Bool, true, false, cond, List, length, get_or, set, refl, sym, ap, ◌∙◌, inl, inr, arith, nat_eq, mul_comm}
use Rattle.std.specs.Prelude.{count_by}
use Rattle.std.specs.List.{range_with_len}
use Rattle.std.proofs.lemmas.Bool.{eq-eqb, ne_eqb, cases_eq}
use Rattle.std.proofs.lemmas.Nat.{mul-add-lt}
use Rattle.std.proofs.lemmas.List.{get_or-set_same, get_or-set_other, length-set, map-id}
use Rattle.std.proofs.lemmas.List.Sums.{count_by-le-length}
use Rattle.std.proofs.lemmas.List.FromFn.{length-range_with_len, sum_by-map-range_with_len_more}
use Rattle.msc_chart.specs.declared.queue.Queues.{Queues}
use Rattle.msc_chart.specs.Drawings.{Drawing, IsAccepted, output_of, sender_of, receiver_of}
use Rattle.msc_chart.specs.Orders.{queue_bound, queue_of}
use Rattle.msc_chart.specs.Laws.{EventsHaveQueues, QueueNumbersAreBounded, IsBounded}
use Rattle.msc_chart.proofs.Drawn.{output_not_local}
use Rattle.msc_chart.proofs.Readers.{output_in}
use Rattle.msc_execution.proofs.Lists.Ranges.{count_more}
use Rattle.msc_instance.specs.Handing.{table_place, AreCounted, AreReceivers}

module _ (queues : Queues) (d : Drawing) (accepted : IsAccepted d) (m : ℕ)
    (below : m < length d.messages) where
  -- the queue of a message has a number below the bound
  pub queue_small : EventsHaveQueues → QueueNumbersAreBounded
      → queue_of queues d m < queue_bound queues d
  queue_small have bounded =
      let e : ℕ = output_of d m in
      let not_local = output_not_local d.events e (accepted.has_messages.output m below) in
      let here = output_in d accepted m below in
      let low = bounded queues d e accepted here not_local in
      let same = have queues d e accepted here not_local
      ∙ ap (queue_of queues d) (accepted.has_messages.own m below) in
      omega (arith, same, low)

  -- its place is in a table of that many rows
  pub place_in : EventsHaveQueues → QueueNumbersAreBounded → (n q s : ℕ) (counts : List ℕ)
      → n ≡ length d.instances
      → q ≡ queue_of queues d m → s < length d.instances
      → length counts ≡ queue_bound queues d * length d.instances
      → q * n + s < length counts
  place_in have bounded n q s counts n_is q_is s_in long =
      let low = queue_small have bounded in
      let within = mul-add-lt (queue_of queues d m) (length d.instances) s (queue_bound queues d)
      low s_in in
      let turned = mul_comm (length d.instances) (queue_bound queues d) in
      rw (n_is, q_is) (omega (arith, within, turned, long))

-- a count is small
pub count_small : (queues : Queues) (d : Drawing) (n : ℕ) (counts : List ℕ) (k : ℕ)
    → AreCounted queues d n counts → k < length counts → get_or counts k 0 ≤ n
count_small queues d n counts k counted lt =
    let p : ℕ → Bool = λ m. nat_eq (table_place queues d m) k in
    omega (
      arith,
      counted k lt,
      count_by-le-length p (range_with_len 0 n),
      length-range_with_len 0 n,
    )

-- one message more is counted
pub counted_more : (queues : Queues) (d : Drawing) (n : ℕ) (counts : List ℕ) (place : ℕ)
    → table_place queues d n ≡ place
    → AreCounted queues d n counts → AreCounted queues d (n + 1)
    (set counts place (get_or counts place 0 + 1))
counted_more queues d n counts place is counted k lt =
    let p : ℕ → Bool = λ m. nat_eq (table_place queues d m) k in
    let inside : k < length counts = omega (
      arith,
      length-set counts place (get_or counts place 0 + 1),
    ) in
    let before : get_or counts k 0 ≡ count_by p (range_with_len 0 n) = counted k inside in
    let grown : count_by p (range_with_len 0 (n + 1))
    ≡ count_by p (range_with_len 0 n) + cond (p n) 1 0 = count_more p n in
    elim (cases_eq place k) [
      | inl same ↦
          let here : p n ≡ true = eq-eqb (table_place queues d n) k (is ∙ same) in
          let one = ap (λ (b : Bool). cond {A = ℕ} b 1 0) here in
          let written = get_or-set_same counts k (get_or counts k 0 + 1) 0 inside in
          rw same (omega (arith, before, grown, one, written))
      | inr other ↦
          let there : p n ≡ false = ne_eqb (table_place queues d n) k (λ e. other (sym is ∙ e)) in
          let none = ap (λ (b : Bool). cond {A = ℕ} b 1 0) there in
          let kept = get_or-set_other counts place k (get_or counts place 0 + 1) 0
          (λ e. other (sym e)) in
          omega (arith, before, grown, none, kept)
    ]

-- the place of a message, from its parts
pub place_is : (queues : Queues) (d : Drawing) (m n q s : ℕ) → n ≡ length d.instances
    → q ≡ queue_of queues d m → s ≡ sender_of d m
    → table_place queues d m ≡ q * n + s
place_is queues d m n q s n_is q_is s_is = rw (n_is, q_is, s_is) refl

-- the receiver of one message more is noted
pub receivers_more : (queues : Queues) (d : Drawing) (n : ℕ) (receivers : List ℕ) (q r : ℕ)
    → q ≡ queue_of queues d n → r ≡ receiver_of d n
    → n < length d.messages → IsBounded queues d (queue_of queues d n) → q < length receivers
    → AreReceivers queues d n receivers → AreReceivers queues d (n + 1) (set receivers q r)
receivers_more queues d n receivers q r q_is r_is below bounded q_in noted m lt =
    elim (cases_eq (queue_of queues d m) q) [
      | inl same ↦
          ap (λ (k : ℕ). get_or (set receivers q r) k 0) same
          ∙ get_or-set_same receivers q r 0 q_in
          ∙ r_is ∙ bounded.one_receiver n m below (omega arith) refl (same ∙ q_is)
      | inr other ↦
          let early : m < n = elim (cases_eq m n) [
            | inl e ↦
                absurd (other (ap (queue_of queues d) e ∙ sym q_is))
            | inr e ↦ omega arith
          ] in
          get_or-set_other receivers q (queue_of queues d m) r 0 other ∙ noted m early
    ]

-- The quotas of a queue, as a table counts them.
use Rattle.std.proofs.Common.{◌≡◌, ℕ, zero, suc, ◌+◌, ◌*◌, ◌<◌, ◌≤◌, ◌&&◌, Bool, true, false, cond, List, [], ◌∷◌, length, get_or, filter, map, take, refl, sym, ap, ◌∙◌, arith, rules, nat_eq, nat_lt}
use Rattle.std.specs.Prelude.{count_by, sum, slice_range}
use Rattle.std.specs.List.{range_with_len, list_any}
use Rattle.std.proofs.lemmas.Bool.{eq-eqb, eqb-true, eqb-false, ne_eqb, lt-ltb, and_left}
use Rattle.std.proofs.lemmas.Nat.{same_from_place, row_fits}
use Rattle.std.proofs.lemmas.List.{places}
use Rattle.std.proofs.lemmas.List.FromFn.{fill_by_all, take-map-range_with_len, length-range_with_len}
use Rattle.std.proofs.lemmas.List.Sums.{sum_by-cons, sum-map, length-filter, count_by-le-length}
use Rattle.msc_chart.specs.declared.queue.Queues.{Queues}
use Rattle.msc_chart.specs.Drawings.{Drawing, IsAccepted, sender_of, receiver_of}
use Rattle.msc_chart.specs.Orders.{queue_of}
use Rattle.msc_chart.specs.Laws.{messages_in, sends_to, senders_in, QueuesAreBounded}
use Rattle.msc_chart.proofs.ListLemmas.{by_test}
use Rattle.msc_chart.proofs.Readers.{sender_in, receiver_in}
use Rattle.msc_fifo.specs.declared.TheConstants.{QUOTA_LIMIT}
use Rattle.msc_execution.specs.Roles.{quota_of, rank_of, takes_from}
use Rattle.msc_instance.specs.Handing.{table_place, senders_among, AreCounted, AreReceivers}
use Rattle.msc_instance.proofs.ListCounts.{both_tests, any_counts, count_mapped, first_passes, count_none, same_number, parts_add_up}

-- how many messages each instance sends to the queue
abbrev pub quotas_of : Queues → Drawing → ℕ → List ℕ
quotas_of queues d q = map (quota_of queues d q) (range_with_len 0 (length d.instances))

module _ (queues : Queues) (d : Drawing) where
  -- a place in the table is that of one queue and one sender
  place_test : (q k m : ℕ) → sender_of d m < length d.instances → k < length d.instances
      → nat_eq (table_place queues d m) (q * length d.instances + k)
      ≡ (nat_eq (queue_of queues d m) q && nat_eq (sender_of d m) k)
  place_test q k m s_in k_in =
      by_test (nat_eq (queue_of queues d m) q)
      (λ yes.
      let row : queue_of queues d m ≡ q = eqb-true _ _ yes in
      by_test (nat_eq (sender_of d m) k)
      (λ own.
      let here : table_place queues d m ≡ q * length d.instances + k =
      ap (λ (x : ℕ). x * length d.instances + sender_of d m) row
      ∙ ap (λ (x : ℕ). q * length d.instances + x) (eqb-true _ _ own) in
      eq-eqb _ _ here ∙ sym (ap (λ b. b && nat_eq (sender_of d m) k) yes ∙ own))
      (λ other.
      ne_eqb _ _ (λ e. eqb-false (sender_of d m) k other (same_from_place _ _ _ _ _ s_in k_in e).1)
      ∙ sym (ap (λ b. b && nat_eq (sender_of d m) k) yes ∙ other)))
      (λ no.
      ne_eqb _ _ (λ e. eqb-false (queue_of queues d m) q no
      (same_from_place _ _ _ _ _ s_in k_in e).0)
      ∙ sym (ap (λ b. b && nat_eq (sender_of d m) k) no))

  -- a place of the table has the quota of its queue and sender
  counted_quota : (q k a n : ℕ) → k < length d.instances
      → ((m : ℕ) → m < a + n → sender_of d m < length d.instances)
      → count_by (λ m. nat_eq (table_place queues d m) (q * length d.instances + k))
      (range_with_len a n)
      ≡ count_by (λ m. nat_eq (sender_of d m) k) (filter (λ m. nat_eq (queue_of queues d m) q)
      (range_with_len a n))
  counted_quota q k a zero k_in known = refl
  counted_quota q k a (suc n) k_in known =
      let r = counted_quota q k (a + 1) n k_in (λ m lt. known m (omega arith)) in
      let c = sum_by-cons (λ m. cond (nat_eq (table_place queues d m) (q * length d.instances + k)) 1
      0) a (range_with_len (a + 1) n) in
      let b = both_tests (λ m. nat_eq (sender_of d m) k) (λ m. nat_eq (queue_of queues d m) q) a
      (range_with_len (a + 1) n) in
      let t = ap (λ b. cond {A = ℕ} b 1 0) (place_test q k a (known a (omega arith)) k_in) in
      omega (arith, r, c, b, t)

  -- so a row of the table is the quotas of its queue
  row_at : (q : ℕ) (counts : List ℕ) → IsAccepted d → AreCounted queues d (length d.messages) counts
      → q * length d.instances + length d.instances ≤ length counts
      → slice_range counts (q * length d.instances) (q * length d.instances + length d.instances)
      ≡ quotas_of queues d q
  unfolding quota_of messages_in
  row_at q counts accepted counted long =
      let n : ℕ = length d.instances in
      let row : List ℕ = slice_range counts (q * n) (q * n + n) in
      let size : length row ≡ n = search (rules, places) in
      fill_by_all (quota_of queues d q) row n 0 size (λ k lt.
      let there : get_or row k 0 ≡ get_or counts (q * n + k) 0 = search (rules, places) in
      there ∙ counted (q * n + k) (omega arith)
      ∙ counted_quota q k 0 (length d.messages) lt
      (λ m below. sender_in d accepted m (omega arith)))

  -- a row of the table has the quotas of its queue
  pub row_is : (q n : ℕ) (counts : List ℕ) → n ≡ length d.instances → IsAccepted d
      → AreCounted queues d (length d.messages) counts
      → (bound : ℕ) → length counts ≡ bound * length d.instances → q < bound
      → slice_range counts (q * n) (q * n + n) ≡ quotas_of queues d q
  unfolding quota_of messages_in
  row_is q n counts many accepted counted bound long low =
      let fits = row_fits q (length d.instances) bound (length d.instances) low (omega arith) in
      rw many (row_at q counts accepted counted (omega (arith, long, fits)))

  -- who sends to a queue has a quota there
  pub sender_has : (q i : ℕ) → sends_to queues d q i ≡ nat_lt 0 (quota_of queues d q i)
  unfolding sends_to quota_of
  sender_has q i = any_counts (λ m. nat_eq (sender_of d m) i) (messages_in queues d q)

  -- the senders among the first quotas are those of lower rank
  pub ranks : (q i : ℕ) → i ≤ length d.instances → senders_among (take i (quotas_of queues d q))
      ≡ rank_of queues d q i
  unfolding rank_of
  ranks q i le =
      ap senders_among (take-map-range_with_len (quota_of queues d q) 0 (length d.instances) i le)
      ∙ count_mapped (nat_lt 0) (sends_to queues d q) (quota_of queues d q)
      (λ x. sym (sender_has q x)) (range_with_len 0 i)

  -- the senders among all quotas are those of the queue
  pub all_senders : (q : ℕ) → senders_among (quotas_of queues d q) ≡ length (senders_in queues d q)
  unfolding senders_in
  all_senders q =
      count_mapped (nat_lt 0) (sends_to queues d q) (quota_of queues d q)
      (λ x. sym (sender_has q x)) (range_with_len 0 (length d.instances))
      ∙ sym (length-filter (sends_to queues d q) (range_with_len 0 (length d.instances)))

  -- the quotas of a queue add up to no more than a queue may have
  pub quotas_fit : (q : ℕ) → IsAccepted d → sum (quotas_of queues d q) ≤ QUOTA_LIMIT
  unfolding quota_of messages_in
  quotas_fit q accepted =
      let h : ℕ → Bool = λ m. nat_eq (queue_of queues d m) q in
      let all = sum-map (quota_of queues d q) (range_with_len 0 (length d.instances)) in
      let parts = parts_add_up (sender_of d) (length d.instances) (messages_in queues d q) in
      let few = length-filter h (range_with_len 0 (length d.messages)) in
      let fewer = count_by-le-length h (range_with_len 0 (length d.messages)) in
      omega (
        arith,
        all,
        parts,
        few,
        fewer,
        length-range_with_len 0 (length d.messages),
        accepted.few_messages,
      )

  -- a queue without a message has no sender and no receiver
  module _ (q : ℕ) (none : messages_in queues d q ≡ []) where
    -- no instance sends to it
    pub no_senders : senders_among (quotas_of queues d q) ≡ 0
    unfolding sends_to
    no_senders =
        count_mapped (nat_lt 0) (sends_to queues d q) (quota_of queues d q)
        (λ x. sym (sender_has q x)) (range_with_len 0 (length d.instances))
        ∙ count_none (sends_to queues d q) (λ i. ap (list_any (λ m. nat_eq (sender_of d m) i)) none)
        (range_with_len 0 (length d.instances))

    -- and none takes from it
    pub no_receiver : (i : ℕ) → takes_from queues d q i ≡ false
    unfolding takes_from
    no_receiver i = ap (list_any (λ m. nat_eq (receiver_of d m) i)) none

  -- a queue with a message has a sender and the receiver of that message
  module _ (q m : ℕ) (rest receivers : List ℕ) (accepted : IsAccepted d)
      (some : messages_in queues d q ≡ m ∷ rest)
      (noted : AreReceivers queues d (length d.messages) receivers) where
    -- it is a message of the chart, and in the queue
    first_there : (nat_eq (queue_of queues d m) q ≡ true) × (m < length d.messages)
    unfolding messages_in
    first_there = let p = first_passes (λ k. nat_eq (queue_of queues d k) q) 0 (length d.messages) m
        rest some in (p.0, omega (arith, p.1))

    -- so some instance sends to the queue
    pub one_sender : QueuesAreBounded → 0 < senders_among (quotas_of queues d q)
    one_sender bounded =
        let at : queue_of queues d m ≡ q = eqb-true _ _ first_there.0 in
        let b = (bounded queues d m accepted first_there.1).some_sender in
        let same = ap (λ k. length (senders_in queues d k)) at in
        omega (arith, b, same, all_senders q)

    -- the receiver that was noted is an instance
    pub receiver_known : get_or receivers q 0 < length d.instances
    receiver_known =
        let at : queue_of queues d m ≡ q = eqb-true _ _ first_there.0 in
        let is : get_or receivers q 0 ≡ receiver_of d m = ap (λ k. get_or receivers k 0) (sym at)
        ∙ noted m first_there.1 in
        omega (arith, is, receiver_in d accepted m first_there.1)

    -- and it alone takes from the queue
    pub one_receiver : (i : ℕ) → takes_from queues d q i ≡ nat_eq (get_or receivers q 0) i
    unfolding takes_from messages_in
    one_receiver i =
        same_number (receiver_of d) (λ k. nat_eq (queue_of queues d k) q) (get_or receivers q 0) i
        (length d.messages) m rest
        (λ k passes lt. sym (noted k lt) ∙ ap (λ x. get_or receivers x 0) (eqb-true _ _ passes))
        some

  -- who takes from a queue, told by its quotas and the list of receivers
  module _ (q : ℕ) (receivers : List ℕ) (accepted : IsAccepted d) (bounded : QueuesAreBounded)
      (noted : AreReceivers queues d (length d.messages) receivers) where
    -- the receiver, if there is a sender: so it is with a message, and without one
    told_takes : (ms : List ℕ) → messages_in queues d q ≡ ms → (i : ℕ)
        → takes_from queues d q i ≡ (nat_lt 0 (senders_among (quotas_of queues d q)) && nat_eq
        (get_or receivers q 0) i)
    told_takes [] none i =
        no_receiver q none i ∙ sym (and_left (nat_lt 0 (senders_among (quotas_of queues d q)))
        (nat_eq (get_or receivers q 0) i) (ap (nat_lt 0) (no_senders q none)))
    told_takes (m ∷ rest) some i =
        one_receiver q m rest receivers accepted some noted i
        ∙ sym (ap (λ b. b && nat_eq (get_or receivers q 0) i)
        (lt-ltb 0 _ (one_sender q m rest receivers accepted some noted bounded)))

    -- so an instance takes from it that is the receiver, if there is a sender
    pub takes_is : (i : ℕ) → takes_from queues d q i
        ≡ (nat_lt 0 (senders_among (quotas_of queues d q)) && nat_eq (get_or receivers q 0) i)
    takes_is i = told_takes (messages_in queues d q) refl i

    -- where there is a sender there is a message, and the receiver of that is an instance
    told_known : (ms : List ℕ) → messages_in queues d q ≡ ms
        → 0 < senders_among (quotas_of queues d q) → get_or receivers q 0 < length d.instances
    told_known [] none senders = absurd (omega (arith, no_senders q none))
    told_known (m ∷ rest) some senders = receiver_known q m rest receivers accepted some noted

    -- so the receiver is an instance where there is a sender
    pub known_receiver : 0 < senders_among (quotas_of queues d q)
        → get_or receivers q 0 < length d.instances
    known_receiver senders = told_known (messages_in queues d q) refl senders

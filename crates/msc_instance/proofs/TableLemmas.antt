-- What tables of counts tell of the ends that fit an instance.
use Rattle.std.proofs.Common.{◌≡◌, ℕ, zero, suc, ◌+◌, ◌<◌, Bool, true, false, cond, List, [], ◌∷◌, length, get_or, filter, replicate, refl, sym, ap, ◌∙◌, inl, inr, arith, nat_eq, nat_lt}
use Rattle.std.specs.Prelude.{count_by}
use Rattle.std.specs.List.{range_with_len}
use Rattle.std.proofs.lemmas.Bool.{cases_lt, ne_eqb}
use Rattle.std.proofs.lemmas.List.{get_or_past}
use Rattle.msc_chart.specs.declared.queue.Queues.{Queues}
use Rattle.msc_chart.specs.Drawings.{Drawing, IsAccepted, sender_of, receiver_of}
use Rattle.msc_chart.specs.Orders.{queue_bound, queue_of}
use Rattle.msc_chart.specs.Laws.{messages_in, sends_to, EventsHaveQueues, QueueNumbersAreBounded}
use Rattle.msc_chart.proofs.ListLemmas.{by_test}
use Rattle.msc_execution.specs.Roles.{Role, EndLists, role, queues_below, quota_of, takes_from, sent_queues, taken_queues, IsFit}
use Rattle.msc_execution.proofs.Wiring.Growing.{any_has}
use Rattle.msc_instance.specs.Fitting.{AreCountsOf, HaveRoom, numbers_in, numbers_of_ends}
use Rattle.msc_instance.proofs.Counted.{queue_small}
use Rattle.msc_instance.proofs.ListCounts.{any_counts}
use Rattle.msc_instance.proofs.Quotas.{sender_has}

-- a test that implies another, in a range
filter_twice : (p f g : ℕ → Bool) (a n : ℕ) → ((k : ℕ) → k < a + n
    → (p k ≡ g k) × (g k ≡ true → f k ≡ true))
    → filter p (range_with_len a n) ≡ filter g (filter f (range_with_len a n))
filter_twice p f g a zero same = refl
filter_twice p f g a (suc n) same =
    let r = filter_twice p f g (a + 1) n (λ k lt. same k (omega arith)) in
    let here = same a (omega arith) in
    let ps : List ℕ = filter p (range_with_len (a + 1) n) in
    let fs : List ℕ = filter f (range_with_len (a + 1) n) in
    by_test (g a)
    (λ yes.
    ap (λ b. cond b (a ∷ ps) ps) (here.0 ∙ yes) ∙ ap (λ l. a ∷ l) r
    ∙ sym (ap (λ b. filter g (cond b (a ∷ fs) fs)) (here.1 yes)
    ∙ ap (λ b. cond b (a ∷ filter g fs) (filter g fs)) yes))
    (λ gone.
    ap (λ b. cond b (a ∷ ps) ps) (here.0 ∙ gone) ∙ r
    ∙ sym (by_test (f a)
    (λ kept. ap (λ b. filter g (cond b (a ∷ fs) fs)) kept
    ∙ ap (λ b. cond b (a ∷ filter g fs) (filter g fs)) gone)
    (λ left. ap (λ b. filter g (cond b (a ∷ fs) fs)) left)))

-- what fails in a range is not kept
none_kept : (h : ℕ → Bool) (a n : ℕ) → ((m : ℕ) → m < a + n → h m ≡ false)
    → filter h (range_with_len a n) ≡ []
none_kept h a zero fails = refl
none_kept h a (suc n) fails =
    ap (λ b. cond b (a ∷ filter h (range_with_len (a + 1) n)) (filter h (range_with_len (a + 1) n)))
    (fails a (omega arith))
    ∙ none_kept h (a + 1) n (λ m lt. fails m (omega arith))

module _ (queues : Queues) (d : Drawing) (i : ℕ) (counts : List ℕ)
    (long : length counts ≡ queue_bound queues d) where
  -- the numbers in a table of what is sent are the queues to which the instance sends
  pub sent_numbers : AreCountsOf (sender_of d) queues d i (length d.messages) counts
      → numbers_in counts ≡ sent_queues (role queues d i)
  unfolding sent_queues queues_below quota_of sends_to messages_in
  sent_numbers counted =
      filter_twice (λ q. nat_lt 0 (get_or counts q 0))
      (λ q. nat_lt 0 (length (messages_in queues d q))) (λ q. sends_to queues d q i) 0
      (length counts) (λ q lt. (
        ap (nat_lt 0) (counted q (omega arith)) ∙ sym (sender_has queues d q i),
        λ sends. any_has (λ m. nat_eq (sender_of d m) i) (messages_in queues d q) sends,
      ))
      ∙ ap (λ n. filter (λ q. sends_to queues d q i)
      (filter (λ q. nat_lt 0 (length (messages_in queues d q))) (range_with_len 0 n))) long

  -- those in a table of what is taken are the queues from which it takes
  pub taken_numbers : AreCountsOf (receiver_of d) queues d i (length d.messages) counts
      → numbers_in counts ≡ taken_queues (role queues d i)
  unfolding taken_queues queues_below takes_from messages_in
  taken_numbers counted =
      filter_twice (λ q. nat_lt 0 (get_or counts q 0))
      (λ q. nat_lt 0 (length (messages_in queues d q))) (λ q. takes_from queues d q i) 0
      (length counts) (λ q lt. (
        ap (nat_lt 0) (counted q (omega arith)) ∙ sym
            (any_counts (λ m. nat_eq (receiver_of d m) i) (messages_in queues d q)),
        λ takes. any_has (λ m. nat_eq (receiver_of d m) i) (messages_in queues d q) takes,
      ))
      ∙ ap (λ n. filter (λ q. takes_from queues d q i)
      (filter (λ q. nat_lt 0 (length (messages_in queues d q))) (range_with_len 0 n))) long

  -- each count of what is sent is the quota
  pub counts_all : IsAccepted d → EventsHaveQueues → QueueNumbersAreBounded
      → AreCountsOf (sender_of d) queues d i (length d.messages) counts
      → (q : ℕ) → get_or counts q 0 ≡ quota_of queues d q i
  unfolding quota_of messages_in
  counts_all accepted have bounded counted q = elim (cases_lt q (length counts)) [
    | inl lt ↦ counted q lt
    | inr past ↦
        let none : messages_in queues d q ≡ [] = none_kept (λ m. nat_eq (queue_of queues d m) q) 0
        (length d.messages) (λ m lt.
        ne_eqb (queue_of queues d m) q (λ e. (let low = queue_small queues d accepted m
        (omega arith) have bounded in omega (arith, low, e)))) in
        get_or_past counts q 0 past ∙ sym (ap (count_by (λ m. nat_eq (sender_of d m) i)) none)
  ]

-- outlets have room for the counts where they have it for the quotas
module _ (r : Role) (sent : List ℕ) (ends : EndLists)
    (quotas : (q : ℕ) → get_or sent q 0 ≡ quota_of r.queues r.chart q r.number) where
  -- so the outlets of ends that fit have it
  pub outlet_room : IsFit r ends → HaveRoom sent ends.outlets
  outlet_room fit k o lt =
      let room = fit.room k o lt in
      (room.0, omega (arith, room.1, quotas (get_or ends.outlets k o).0))

  -- ends with the numbers of an instance's queues, and with that room, fit
  pub fitting : numbers_of_ends ends.outlets ≡ sent_queues r → numbers_of_ends ends.inlets ≡ taken_queues r
      → HaveRoom sent ends.outlets → IsFit r ends
  fitting outlets inlets room = record {
    outlets = outlets;
    inlets = inlets;
    room = λ k o lt.
        let there = room k o lt in
        (there.0, omega (arith, there.1, quotas (get_or ends.outlets k o).0));
  }

-- a table of nothing, and a part of it
pub zero_everywhere : (n q : ℕ) → get_or {A = ℕ} (replicate n 0) q 0 ≡ 0
zero_everywhere zero q = refl
zero_everywhere (suc n) zero = refl
zero_everywhere (suc n) (suc q) = zero_everywhere n q

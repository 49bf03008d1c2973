-- How the fresh ends grow, queue by queue.
use Rattle.std.proofs.Common.{◌≡◌, ℕ, suc, ◌+◌, ◌<◌, Bool, true, false, cond, List, [], ◌∷◌, ◌++◌, length, map, filter, refl, sym, ap, ◌∙◌, arith, true≢false}
use Rattle.std.specs.Prelude.{nat_lt}
use Rattle.std.specs.List.{list_any, range_with_len}
use Rattle.std.proofs.lemmas.Bool.{lt-ltb}
use Rattle.std.proofs.lemmas.List.{map-append}
use Rattle.std.proofs.lemmas.List.Elements.{filter-append}
use Rattle.msc_chart.specs.declared.queue.Queues.{Queues}
use Rattle.msc_chart.specs.Lists.{occurs}
use Rattle.msc_chart.specs.Drawings.{Drawing}
use Rattle.msc_chart.specs.Orders.{queue_bound}
use Rattle.msc_chart.specs.Laws.{messages_in, sends_to, senders_in}
use Rattle.msc_chart.proofs.ListLemmas.{by_test, clash, occurs-head, occurs-tail}
use Rattle.msc_fifo.specs.Identity.{QueueId}
use Rattle.msc_fifo.specs.Ends.{new_outlet, new_inlet}
use Rattle.msc_execution.specs.Roles.{Role, NumberedOutlet, NumberedInlet, fresh_outlet, fresh_inlet, wired_ends, queues_below, takes_from, sent_queues, taken_queues, rank_of, quota_of, EndLists}
use Rattle.msc_execution.specs.Fits.{sent_below, taken_below, no_ends, wired_below, IsWiringStep, WiringGrows}
use Rattle.msc_execution.proofs.Lists.Words.{passes}
use Rattle.msc_execution.proofs.Lists.Ranges.{filter_more}
use Rattle.msc_execution.proofs.Wiring.Receivers.{in_below}

-- the ends that are these outlets and inlets
abbrev pub ends_from : List NumberedOutlet → List NumberedInlet → EndLists
ends_from outlets inlets = record { outlets = outlets; inlets = inlets }

-- where some element passes there is an element
pub any_has : (g : ℕ → Bool) (ms : List ℕ) → list_any g ms ≡ true → nat_lt 0 (length ms) ≡ true
any_has g [] h = absurd (true≢false (sym h))
any_has g (m ∷ ms) h = lt-ltb 0 (length (m ∷ ms)) (omega arith)

-- the queues below one number more
queues_more : (queues : Queues) (d : Drawing) (n : ℕ)
    → queues_below queues d (n + 1)
    ≡ queues_below queues d n ++ cond (nat_lt 0 (length (messages_in queues d n))) (n ∷ []) []
unfolding queues_below
queues_more queues d n =
    (let e : n + 1 ≡ suc n = omega arith in
    ap (λ (k : ℕ). filter (λ q. nat_lt 0 (length (messages_in queues d q)))
    (range_with_len 0 k)) e)
    ∙ filter_more (λ q. nat_lt 0 (length (messages_in queues d q))) n

-- a test that passes only where another does, on one number or none
one_number : (p : ℕ → Bool) (b : Bool) (n : ℕ) → (p n ≡ true → b ≡ true)
    → filter p (cond b (n ∷ []) []) ≡ cond (p n) (n ∷ []) []
one_number p true n h = refl
one_number p false n h =
    by_test (p n) (λ t. clash (h t) refl) (λ f. sym (ap (λ (c : Bool). cond c (n ∷ []) []) f))

-- of those the ones that pass
below_more : (queues : Queues) (d : Drawing) (p : ℕ → Bool) (n : ℕ)
    → (p n ≡ true → nat_lt 0 (length (messages_in queues d n)) ≡ true)
    → filter p (queues_below queues d (n + 1))
    ≡ filter p (queues_below queues d n) ++ cond (p n) (n ∷ []) []
below_more queues d p n has =
    let b : Bool = nat_lt 0 (length (messages_in queues d n)) in
    ap (filter p) (queues_more queues d n)
    ∙ filter-append p (queues_below queues d n) (cond b (n ∷ []) [])
    ∙ ap (λ (l : List ℕ). filter p (queues_below queues d n) ++ l) (one_number p b n has)

-- one thing or none, mapped
one_mapped : {A : Type 0} (f : ℕ → A) (b : Bool) (n : ℕ)
    → map f (cond b (n ∷ []) []) ≡ cond b (f n ∷ []) []
one_mapped f true n = refl
one_mapped f false n = refl

-- functions that agree on the members of a list
pub agree : {A : Type 0} (f g : ℕ → A) (xs : List ℕ) → ((x : ℕ) → occurs xs x ≡ true → f x ≡ g x)
    → map f xs ≡ map g xs
agree f g [] h = refl
agree {A} f g (x ∷ xs) h =
    ap (λ (a : A). a ∷ map f xs) (h x (occurs-head x xs))
    ∙ ap (λ (l : List A). g x ∷ l) (agree f g xs (λ y y_in. h y (occurs-tail x xs y y_in)))

module _ (r : Role) (n : ℕ) where
  -- an instance sends to one queue more, or not
  sent_more : sent_below r (n + 1)
      ≡ sent_below r n ++ cond (sends_to r.queues r.chart n r.number) (n ∷ []) []
  unfolding sent_below sends_to
  sent_more =
      below_more r.queues r.chart (λ q. sends_to r.queues r.chart q r.number) n
      (λ h. any_has _ (messages_in r.queues r.chart n) h)

  -- it takes from one queue more, or not
  taken_more : taken_below r (n + 1)
      ≡ taken_below r n ++ cond (takes_from r.queues r.chart n r.number) (n ∷ []) []
  unfolding taken_below takes_from
  taken_more =
      below_more r.queues r.chart (λ q. takes_from r.queues r.chart q r.number) n
      (λ h. any_has _ (messages_in r.queues r.chart n) h)

  -- the queues below n to which it sends are below n
  sent_small : (q : ℕ) → occurs (sent_below r n) q ≡ true → q < n
  unfolding sent_below
  sent_small q h =
      (in_below r.queues r.chart n q
      (passes (λ k. sends_to r.queues r.chart k r.number)
      (queues_below r.queues r.chart n) q h).0).0

  -- and so are those from which it takes
  taken_small : (q : ℕ) → occurs (taken_below r n) q ≡ true → q < n
  unfolding taken_below
  taken_small q h =
      (in_below r.queues r.chart n q
      (passes (λ k. takes_from r.queues r.chart k r.number)
      (queues_below r.queues r.chart n) q h).0).0

  -- one queue more is handed out
  pub wiring_step : IsWiringStep r n
  wiring_step = record {
    outlets = λ id.
        ap (map (fresh_outlet id r)) sent_more
        ∙ map-append (fresh_outlet id r) (sent_below r n)
        (cond (sends_to r.queues r.chart n r.number) (n ∷ []) [])
        ∙ ap (λ (l : List NumberedOutlet). map (fresh_outlet id r) (sent_below r n) ++ l)
        (one_mapped (fresh_outlet id r) (sends_to r.queues r.chart n r.number) n);
    inlets = λ id.
        ap (map (fresh_inlet id r)) taken_more
        ∙ map-append (fresh_inlet id r) (taken_below r n)
        (cond (takes_from r.queues r.chart n r.number) (n ∷ []) [])
        ∙ ap (λ (l : List NumberedInlet). map (fresh_inlet id r) (taken_below r n) ++ l)
        (one_mapped (fresh_inlet id r) (takes_from r.queues r.chart n r.number) n);
    same = λ id other alike.
        let outlets : map (fresh_outlet id r) (sent_below r n)
        ≡ map (fresh_outlet other r) (sent_below r n) =
        agree (fresh_outlet id r) (fresh_outlet other r) (sent_below r n) (λ q q_in.
        ap (λ (k : QueueId). (
          q,
          new_outlet k (rank_of r.queues r.chart q r.number)
              (quota_of r.queues r.chart q r.number),
        )) (alike q (sent_small q q_in))) in
        let inlets : map (fresh_inlet id r) (taken_below r n)
        ≡ map (fresh_inlet other r) (taken_below r n) =
        agree (fresh_inlet id r) (fresh_inlet other r) (taken_below r n) (λ q q_in.
        ap (λ (k : QueueId). (q, new_inlet k (length (senders_in r.queues r.chart q))))
        (alike q (taken_small q q_in))) in
        ap (λ (l : List NumberedOutlet). ends_from l (map (fresh_inlet id r) (taken_below r n)))
        outlets
        ∙ ap (λ (l : List NumberedInlet). ends_from (map (fresh_outlet other r) (sent_below r n)) l)
        inlets;
  }

-- no queue is below 0
none_wired : (id : ℕ → QueueId) (r : Role) → wired_below id r 0 ≡ no_ends
unfolding sent_below taken_below queues_below
none_wired id r = refl

-- below the bound all queues are handed out
all_wired : (id : ℕ → QueueId) (r : Role)
    → wired_below id r (queue_bound r.queues r.chart) ≡ wired_ends id r
unfolding sent_below taken_below sent_queues taken_queues
all_wired id r = refl

-- so the fresh ends come about queue by queue
pub grows : WiringGrows
grows = record { none = none_wired; step = wiring_step; whole = all_wired }

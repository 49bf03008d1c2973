-- The flat lists hold each queue's ends.
use Rattle.std.proofs.Common.{◌≡◌, ℕ, ◌<◌, true, cond, eqb, List, [], ◌∷◌, length, filter, refl, sym, ap, ◌∙◌, arith, subst}
use Rattle.std.specs.List.{AllZip, range_with_len}
use Rattle.std.proofs.lemmas.Slice.Zip.{AllZip-long}
use Rattle.msc_chart.specs.declared.queue.Queues.{Queues}
use Rattle.msc_chart.specs.Lists.{occurs}
use Rattle.msc_chart.specs.Drawings.{Drawing, IsAccepted}
use Rattle.msc_chart.specs.Laws.{sends_to, senders_in}
use Rattle.msc_fifo.specs.Identity.{QueueId}
use Rattle.msc_fifo.specs.Ends.{OutletState, InletState, new_outlet, new_inlet}
use Rattle.msc_fifo.specs.Laws.{AreNumberedFrom}
use Rattle.msc_fifo.proofs.NumberedOutlets.{numbered_whole}
use Rattle.msc_execution.specs.Roles.{NumberedOutlet, NumberedInlet, role, queues_in, takes_from, quota_of, rank_of, sent_queues, taken_queues}
use Rattle.msc_execution.specs.Growth.{IsLeftBy, HasTaken, all_messages}
use Rattle.msc_execution.specs.Settling.{of_queue}
use Rattle.msc_execution.proofs.Lists.Ranges.{one_of_range, same_filter}
use Rattle.msc_execution.proofs.Wiring.Receivers.{one_sent, one_taken, the_receiver}
use Rattle.msc_execution.proofs.Settling.Came.{Came, all_outlets, all_inlets, HaveGrown, IsOutletOf, IsInletOf, AreEndsOf}
use Rattle.msc_execution.proofs.Settling.Buckets.{At, picked, moved, gathered, numbered_from, all_of}

module _ {queues : Queues} {d : Drawing} {id : ℕ → QueueId} {c : Came} (q : ℕ)
    (grown : HaveGrown queues d id c)
    (here : occurs (queues_in queues d) q ≡ true) where
  -- what stands behind a fresh outlet of the queue is the instance's outlet
  outlet_is : (i : ℕ) (o : OutletState)
      → At (IsLeftBy (role queues d i) (c.logs i) (grown.readings i))
      (λ k. new_outlet (id k) (rank_of queues d k i) (quota_of queues d k i)) q o
      → IsOutletOf queues d id c q i o
  outlet_is i o h =
      let (y, left, same) = h in
      record {
        queue = ap (λ (s : OutletState). s.queue) same ∙ left.same.0;
        sender = ap (λ (s : OutletState). s.sender) same ∙ left.same.1;
        put = ap (λ (s : OutletState). s.put) same ∙ left.put;
        closed = ap (λ (s : OutletState). s.closed) same ∙ left.closed;
      }

  -- and behind a fresh inlet its inlet
  inlet_is : (i : ℕ) (o : InletState)
      → At (HasTaken (role queues d i) (c.logs i) (grown.readings i) (grown.strange i))
      (λ k. new_inlet (id k) (length (senders_in queues d k))) q o
      → IsInletOf queues d id c grown.strange q i o
  inlet_is i o h =
      let (y, taken, same) = h in
      record {
        queue = ap (λ (s : InletState). s.queue) same ∙ taken.same.0;
        senders = ap (λ (s : InletState). s.senders) same ∙ taken.same.1;
        got = ap (λ (s : InletState). all_messages s.got) same ∙ taken.got;
      }

  -- an instance that sends to the queue has one outlet of it among what came back, another none
  outlet_of : (i : ℕ) → i < length d.instances
      → AllZip (IsOutletOf queues d id c q) (cond (sends_to queues d q i) (i ∷ []) [])
      (of_queue q (c.back i).outlets)
  outlet_of i lt =
      let R : NumberedOutlet → NumberedOutlet
      → Type 0 = IsLeftBy (role queues d i) (c.logs i) (grown.readings i) in
      let f : ℕ → OutletState =
      λ k. new_outlet (id k) (rank_of queues d k i) (quota_of queues d k i) in
      let h =
      picked R f q (λ x y k. k.number) (sent_queues (role queues d i)) (c.back i).outlets
      (grown.put i lt) in
      moved (At R f) (IsOutletOf queues d id c q) q i (outlet_is i) (sends_to queues d q i)
      (of_queue q (c.back i).outlets)
      (subst (λ (l : List ℕ). AllZip (At R f) l (of_queue q (c.back i).outlets))
      (one_sent queues d i q here) h)

  -- and so with inlets
  inlet_of : (i : ℕ) → i < length d.instances
      → AllZip (IsInletOf queues d id c grown.strange q)
      (cond (takes_from queues d q i) (i ∷ []) []) (of_queue q (c.back i).inlets)
  inlet_of i lt =
      let R : NumberedInlet → NumberedInlet
      → Type 0 = HasTaken (role queues d i) (c.logs i) (grown.readings i) (grown.strange i) in
      let f : ℕ → InletState = λ k. new_inlet (id k) (length (senders_in queues d k)) in
      let h =
      picked R f q (λ x y k. k.number) (taken_queues (role queues d i)) (c.back i).inlets
      (grown.got i lt) in
      moved (At R f) (IsInletOf queues d id c grown.strange q) q i (inlet_is i)
      (takes_from queues d q i) (of_queue q (c.back i).inlets)
      (subst (λ (l : List ℕ). AllZip (At R f) l (of_queue q (c.back i).inlets))
      (one_taken queues d i q here) h)

  -- the outlets of all instances
  pub outlets_of : AllZip (IsOutletOf queues d id c q) (senders_in queues d q)
      (of_queue q (all_outlets c (length d.instances)))
  unfolding senders_in
  outlets_of =
      gathered (IsOutletOf queues d id c q) (sends_to queues d q) q (λ i. (c.back i).outlets)
      (length d.instances) outlet_of

  -- the inlets of all instances
  pub inlets_of : AllZip (IsInletOf queues d id c grown.strange q)
      (filter (takes_from queues d q) (range_with_len 0 (length d.instances)))
      (of_queue q (all_inlets c (length d.instances)))
  inlets_of =
      gathered (IsInletOf queues d id c grown.strange q) (takes_from queues d q) q
      (λ i. (c.back i).inlets) (length d.instances) inlet_of

  -- the outlets are numbered in their order
  pub outlets_numbered : AreNumberedFrom 0 (of_queue q (all_outlets c (length d.instances)))
  unfolding senders_in rank_of
  outlets_numbered =
      numbered_from (sends_to queues d q) (IsOutletOf queues d id c q) (λ i o h. h.sender)
      (length d.instances) 0 0
      (of_queue q (all_outlets c (length d.instances))) refl outlets_of

-- what goes with one instance is one thing
one_inlet : {B : Type 0} (T : ℕ → B → Type 0) (r : ℕ) (os : List B) → AllZip T (r ∷ []) os
    → (o : B) × (os ≡ o ∷ []) × T r o
one_inlet T r [] h = absurd h
one_inlet T r (o ∷ []) h = (o, refl, h.0)
one_inlet T r (o ∷ x ∷ os) h = absurd h.1

-- the flat lists hold the ends of each queue with a message
pub flat_lists : {queues : Queues} {d : Drawing} {id : ℕ → QueueId} {c : Came} (q : ℕ)
    → IsAccepted d
    → (grown : HaveGrown queues d id c) → occurs (queues_in queues d) q ≡ true
    → AreEndsOf queues d id c grown.strange q
flat_lists {queues} {d} {id} {c} q accepted grown here =
    let n : ℕ = length d.instances in
    let receiver = the_receiver queues d q accepted here in
    let r : ℕ = receiver.0 in
    let alone : filter (takes_from queues d q) (range_with_len 0 n) ≡ r ∷ [] =
    same_filter (takes_from queues d q) (λ i. eqb i r) receiver.1.takes (range_with_len 0 n)
    ∙ one_of_range r 0 n (omega arith) (omega (arith, receiver.1.within)) in
    let inlets =
    subst (λ (l : List ℕ). AllZip (IsInletOf queues d id c grown.strange q) l
    (of_queue q (all_inlets c n))) alone (inlets_of q grown here) in
    let inlet =
    one_inlet (IsInletOf queues d id c grown.strange q) r
    (of_queue q (all_inlets c n)) inlets in
    let is : IsInletOf queues d id c grown.strange q r inlet.0 = inlet.2 in
    let outlets = outlets_of q grown here in
    let numbered = outlets_numbered q grown here in
    record {
      outlets = outlets;
      numbered = numbered;
      receiver = r;
      within = receiver.1.within;
      takes = receiver.1.takes;
      inlet = inlet.0;
      alone = inlet.1;
      is_inlet = is;
      whole = numbered_whole inlet.0 (of_queue q (all_outlets c n))
          (all_of (IsOutletOf queues d id c q) (λ o. o.queue ≡ inlet.0.queue)
          (λ i o h. h.queue ∙ sym is.queue) (senders_in queues d q)
          (of_queue q (all_outlets c n)) outlets)
          numbered
          (AllZip-long (IsOutletOf queues d id c q) (senders_in queues d q)
          (of_queue q (all_outlets c n)) outlets ∙ sym is.senders);
    }

-- One queue more is handed out to all instances of a chart.
use Rattle.std.proofs.Common.{◌≡◌, ℕ, ◌+◌, ◌<◌, ◌&&◌, Bool, cond, List, [], ◌∷◌, ◌++◌, length, get_or, map, take, refl, sym, ap, ◌∙◌, arith, nat_eq, nat_lt, Some, slice_get}
use Rattle.std.proofs.lemmas.Bool.{eq-eqb, ne_eqb}
use Rattle.std.proofs.lemmas.List.{length-map}
use Rattle.std.proofs.lemmas.List.FromFn.{get_or-map-range_with_len}
use Rattle.std.proofs.lemmas.Option.{slice_get_within, get_or_from_slice_get, slice_get-map}
use Rattle.std.specs.Option.{option_map}
use Rattle.msc_chart.specs.declared.queue.Queues.{Queues}
use Rattle.msc_chart.specs.Drawings.{Drawing}
use Rattle.msc_chart.specs.Orders.{queue_bound}
use Rattle.msc_chart.specs.Laws.{sends_to}
use Rattle.msc_fifo.specs.Identity.{QueueId}
use Rattle.msc_fifo.proofs.NoQueue.{no_queue}
use Rattle.msc_fifo.specs.Ends.{new_outlet, new_inlet}
use Rattle.msc_execution.specs.Roles.{Role, NumberedOutlet, NumberedInlet, role, quota_of, rank_of, takes_from, fresh_outlet, fresh_inlet, IsWiring, IsFit}
use Rattle.msc_execution.specs.Fits.{no_ends, wired_below, WiringsFit, WiringGrows}
use Rattle.msc_instance.specs.declared.ends.InstanceEnds.{InstanceEnds}
use Rattle.msc_instance.specs.Views.{ends_of}
use Rattle.msc_instance.specs.Handing.{AreUnder, AreHandedOut, AreWiredBelow, ends_at, inlet_for, outlet_for, senders_among}
use Rattle.msc_instance.proofs.Quotas.{sender_has, ranks, all_senders, quotas_of}
use Rattle.msc_execution.proofs.Wiring.Growing.{ends_from}

-- the same queues, and one more
with_queue : (ℕ → QueueId) → ℕ → QueueId → ℕ → QueueId
with_queue id q new k = cond (nat_eq k q) new (id k)

module _ (queues : Queues) (d : Drawing) (q i : ℕ) (id : ℕ
    → QueueId) (new : QueueId) (here : id q ≡ new) where
  -- what an instance gets of a queue is its fresh outlet there
  outlet_is : i < length d.instances
      → outlet_for new q (quotas_of queues d q) i ≡ cond (sends_to queues d q i)
      (fresh_outlet id (role queues d i) q ∷ []) []
  outlet_is known =
      let quota : get_or (quotas_of queues d q) i 0 ≡ quota_of queues d q i =
      get_or-map-range_with_len (quota_of queues d q) 0 (length d.instances) i i 0 known
      (omega arith) in
      let rank = ranks queues d q i (omega arith) in
      let one : QueueId → ℕ → ℕ → List NumberedOutlet =
      λ k r n. cond (nat_lt 0 n) ((q, new_outlet k r n) ∷ []) [] in
      ap (λ k. one k (senders_among (take i (quotas_of queues d q)))
      (get_or (quotas_of queues d q) i 0)) (sym here)
      ∙ ap (λ r. one (id q) r (get_or (quotas_of queues d q) i 0)) rank
      ∙ ap (λ n. one (id q) (rank_of queues d q i) n) quota
      ∙ ap (λ b. cond b (fresh_outlet id (role queues d i) q ∷ []) [])
      (sym (sender_has queues d q i))

  -- and so is its inlet
  inlet_is : (receiver : ℕ) → takes_from queues d q i
      ≡ (nat_lt 0 (senders_among (quotas_of queues d q)) && nat_eq receiver i)
      → inlet_for new q (quotas_of queues d q) receiver i
      ≡ cond (takes_from queues d q i) (fresh_inlet id (role queues d i) q ∷ []) []
  inlet_is receiver takes =
      let one : QueueId → ℕ → Bool → List NumberedInlet =
      λ k n b. cond b ((q, new_inlet k n) ∷ []) [] in
      ap (λ k. one k (senders_among (quotas_of queues d q))
      (nat_lt 0 (senders_among (quotas_of queues d q)) && nat_eq receiver i)) (sym here)
      ∙ ap (λ n. one (id q) n (nat_lt 0 (senders_among (quotas_of queues d q)) && nat_eq receiver
      i)) (all_senders queues d q)
      ∙ ap (λ b. cond b (fresh_inlet id (role queues d i) q ∷ []) []) (sym takes)

-- the ends of the queues below q, and then those of queue q, are those of the queues below q + 1
pub wired_more : WiringGrows → (queues : Queues) (d : Drawing) (q receiver : ℕ) (quotas : List ℕ)
    (all new : List InstanceEnds)
    → quotas ≡ quotas_of queues d q → length new ≡ length all
    → ((i : ℕ) → takes_from queues d q i ≡ (nat_lt 0
    (senders_among (quotas_of queues d q)) && nat_eq receiver i))
    → AreWiredBelow queues d q all → AreHandedOut q quotas receiver all new
    → AreWiredBelow queues d (q + 1) new
unfolding with_queue
wired_more grows queues d q receiver quotas all new is same takes before handed =
    let id : ℕ → QueueId = with_queue before.id q handed.id in
    let here : id q ≡ handed.id = ap (λ b. cond b handed.id (before.id q)) (eq-eqb q q refl) in
    record {
      many = same ∙ before.many;
      under = handed.under queues before.under;
      id = id;
      each = λ i lt.
          let inside : i < length all = omega arith in
          let known : i < length d.instances = omega (arith, before.many) in
          let r : Role = role queues d i in
          let step = grows.step r q in
          let earlier : ends_at all i ≡ wired_below id r q =
          before.each i inside ∙ step.same before.id id
          (λ k low. sym (ap (λ b. cond b handed.id (before.id k))
          (ne_eqb k q (λ e. omega arith)))) in
          let outlets : (ends_at new i).outlets ≡ (wired_below id r (q + 1)).outlets =
          handed.outlets i inside ∙ ap (λ e. e.outlets ++ outlet_for handed.id q quotas i) earlier
          ∙ ap (λ l. (wired_below id r q).outlets ++ outlet_for handed.id q l i) is
          ∙ ap (λ l. (wired_below id r q).outlets ++ l)
          (outlet_is queues d q i id handed.id here known) ∙ sym (step.outlets id) in
          let inlets : (ends_at new i).inlets ≡ (wired_below id r (q + 1)).inlets =
          handed.inlets i inside ∙ ap (λ e. e.inlets ++ inlet_for handed.id q quotas receiver i)
          earlier
          ∙ ap (λ l. (wired_below id r q).inlets ++ inlet_for handed.id q l receiver i) is
          ∙ ap (λ l. (wired_below id r q).inlets ++ l)
          (inlet_is queues d q i id handed.id here receiver (takes i)) ∙ sym (step.inlets id) in
          ap (λ l. ends_from l (ends_at new i).inlets) outlets
          ∙ ap (λ l. ends_from (wired_below id r (q + 1)).outlets l) inlets;
    }

-- before the first queue
pub none_wired : WiringGrows → (queues : Queues) (d : Drawing) (all : List InstanceEnds)
    → length all ≡ length d.instances → AreUnder queues all
    → ((i : ℕ) → ends_at all i ≡ no_ends) → AreWiredBelow queues d 0 all
none_wired grows queues d all many under none = record {
  many = many;
  under = under;
  id = λ q. no_queue;
  each = λ i lt. none i ∙ sym (grows.none (λ q. no_queue) (role queues d i));
}

-- after the last
pub all_wired : WiringGrows → (queues : Queues) (d : Drawing) (all : List InstanceEnds)
    → AreWiredBelow queues d (queue_bound queues d) all
    → IsWiring queues d (map ends_of all)
all_wired grows queues d all wired = record {
  many = length-map all ends_of ∙ wired.many;
  id = wired.id;
  each = λ i e at.
      let lt = slice_get_within (map ends_of all) i e at in
      sym (get_or_from_slice_get (map ends_of all) i e no_ends at)
      ∙ wired.each i (omega (arith, lt, length-map all ends_of))
      ∙ grows.whole wired.id (role queues d i);
}

-- and what was handed out fits
pub all_fit : WiringsFit → (queues : Queues) (d : Drawing) (all : List InstanceEnds)
    → IsWiring queues d (map ends_of all)
    → (i : ℕ) (e : InstanceEnds) → slice_get all i ≡ Some e → IsFit (role queues d i) (ends_of e)
all_fit fits queues d all wiring i e at =
    fits queues d (map ends_of all) i (ends_of e) wiring (slice_get-map ends_of all i
    ∙ ap (λ o. option_map ends_of o) at)

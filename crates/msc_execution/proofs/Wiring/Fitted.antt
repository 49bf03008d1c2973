-- What the loop of an instance needs of the ends that fit it.
use Rattle.std.proofs.Common.{◌≡◌, ℕ, zero, suc, ◌+◌, ◌<◌, ◌≤◌, ◌||◌, Bool, true, false, eqb, List, [], ◌∷◌, ◌++◌, length, get_or, map, filter, refl, sym, ap, ◌∙◌, inl, inr, arith, subst, length-append}
use Rattle.std.specs.Prelude.{All}
use Rattle.std.proofs.lemmas.Bool.{eq-eqb, eqb-true}
use Rattle.std.proofs.lemmas.List.Sums.{length-filter}
use Rattle.msc_chart.specs.declared.queue.Queues.{Queues}
use Rattle.msc_chart.specs.Lists.{occurs, until}
use Rattle.msc_chart.specs.Charts.{line, message}
use Rattle.msc_chart.specs.Drawings.{Drawing, sender_of}
use Rattle.msc_chart.specs.Laws.{messages_in, senders_in}
use Rattle.msc_chart.proofs.ListLemmas.{by_test, clash, parts, occurs-append, occurs-left, occurs-head, occurs-tail, occurs-right, IsDistinct}
use Rattle.msc_chart.proofs.Drawn.{output_parts, output_not_local}
use Rattle.msc_fifo.specs.Identity.{QueueId}
use Rattle.msc_fifo.specs.Ends.{new_outlet, new_inlet}
use Rattle.msc_execution.specs.Roles.{NumberedOutlet, EndLists, role, wired_ends, queues_in, takes_from, sent_queues, taken_queues, rank_of, quota_of, IsFit}
use Rattle.msc_execution.specs.Logs.{sent}
use Rattle.msc_execution.specs.Fits.{WiringsFit, OutputsHaveOutlets, LogsKeepQuotas, InletsBringOwn}
use Rattle.msc_execution.proofs.Lists.Words.{head_or_tail, passes, kept}
use Rattle.msc_execution.proofs.Wiring.Receivers.{messages_has, sent_has, the_receiver}
use Rattle.msc_execution.proofs.Wiring.Logged.{sent_is, sent_once}

-- fresh ends have the numbers of their queues
same_numbers : {A : Type 0} (f : ℕ → A) (qs : List ℕ)
    → map (λ (o : ℕ × A). o.0) (map (λ (q : ℕ). (q, f q)) qs) ≡ qs
same_numbers f [] = refl
same_numbers f (q ∷ qs) = ap (λ (l : List ℕ). q ∷ l) (same_numbers f qs)

-- what holds of each fresh end holds at each place
mapped_at : {A : Type 0} (f : ℕ → A) (P : A → Type 0) → ((q : ℕ) → P (f q))
    → (qs : List ℕ) (k : ℕ) (d : A) → k < length (map f qs) → P (get_or (map f qs) k d)
mapped_at f P holds [] k d lt = absurd (omega arith)
mapped_at f P holds (q ∷ qs) zero d lt = holds q
mapped_at f P holds (q ∷ qs) (suc k) d lt = mapped_at f P holds qs k d (omega arith)

-- and so of all
all_mapped : {A : Type 0} (f : ℕ → A) (P : A → Type 0) → ((q : ℕ) → P (f q)) → (qs : List ℕ)
    → All P (map f qs)
all_mapped f P holds qs = λ k d lt. mapped_at f P holds qs k d lt

-- the fresh ends of an instance fit it
wired_fits : (queues : Queues) (d : Drawing) (id : ℕ → QueueId) (i : ℕ)
    → IsFit (role queues d i) (wired_ends id (role queues d i))
wired_fits queues d id i = record {
  outlets =
      same_numbers (λ q. new_outlet (id q) (rank_of queues d q i) (quota_of queues d q i))
      (sent_queues (role queues d i));
  inlets =
      same_numbers (λ q. new_inlet (id q) (length (senders_in queues d q)))
      (taken_queues (role queues d i));
  room = all_mapped (λ q. (q, new_outlet (id q) (rank_of queues d q i) (quota_of queues d q i)))
      (λ (o : NumberedOutlet). (o.1.closed ≡ false)
      × (length o.1.put + quota_of queues d o.0 i ≤ o.1.quota))
      (λ q. (refl, omega arith)) (sent_queues (role queues d i));
}

-- so do those that were handed out
pub fits : WiringsFit
fits queues d all i e wiring at =
    subst (λ (b : EndLists). IsFit (role queues d i) b) (sym (wiring.each i e at))
    (wired_fits queues d wiring.id i)

-- the queue of an output is one to which its line sends
pub have_outlets : OutputsHaveOutlets
unfolding sender_of
have_outlets queues d i e accepted output on =
    sent_has queues d i (message d.events e) accepted
    (accepted.has_messages.known e (output_parts d.events e output).0
    (output_not_local d.events e output))
    (ap (line d.events) (accepted.has_messages.back e output) ∙ on)

-- a list without repetition whose members are in another list is no longer
pub pigeons : (xs ys : List ℕ) → IsDistinct xs → ((x : ℕ) → occurs xs x ≡ true → occurs ys x ≡ true)
    → length xs ≤ length ys
pigeons [] ys once h = omega arith
pigeons (x ∷ xs) ys once h =
    let p = parts ys x (h x (occurs-head x xs)) in
    let front : List ℕ = until ys x in
    let rest : List ℕ = p.0 in
    let shorter : length xs ≤ length (front ++ rest) = pigeons xs (front ++ rest) once.1 (λ y y_in.
    let there : occurs (front ++ x ∷ rest) y ≡ true =
    ap (λ (l : List ℕ). occurs l y) (sym p.1) ∙ h y (occurs-tail x xs y y_in) in
    by_test (occurs front y)
    (λ early. occurs-left front rest y early)
    (λ late.
    let behind : occurs (x ∷ rest) y ≡ true =
    ap (λ (b : Bool). b || occurs (x ∷ rest) y) (sym late) ∙ sym (occurs-append front (x ∷ rest) y)
    ∙ there in
    elim (head_or_tail x rest y behind) [
      | inl is ↦ clash (subst (λ (k : ℕ). occurs xs k ≡ true) (sym is) y_in) once.0
      | inr later ↦ occurs-right front rest y later
    ])) in
    let whole : length ys ≡ length front + suc (length rest) =
    ap (λ (l : List ℕ). length l) p.1 ∙ length-append front (x ∷ rest) in
    let less : length (front ++ rest) ≡ length front + length rest = length-append front rest in
    omega arith

-- what a log sends to a queue are messages of its sender there, each once
pub keep_quotas : LogsKeepQuotas
unfolding quota_of
keep_quotas queues d q i log accepted is =
    let sender : ℕ → Bool = λ m. eqb (sender_of d m) i in
    let n = length-filter sender (messages_in queues d q) in
    let short =
    pigeons (sent queues d q log) (filter sender (messages_in queues d q))
    (sent_once queues d accepted q i log is) (λ m m_in.
    let m_is = sent_is queues d accepted q i log m is m_in in
    kept sender (messages_in queues d q) m
    (ap (λ (k : ℕ). occurs (messages_in queues d k) m) (sym m_is.queue)
    ∙ messages_has queues d m m_is.known)
    (eq-eqb (sender_of d m) i m_is.sender)) in
    omega (arith, n, short)

-- the messages of a queue from which an instance takes come to it
pub bring_own : InletsBringOwn
unfolding taken_queues
bring_own queues d q i m accepted here below at =
    let t = passes (λ k. takes_from queues d k i) (queues_in queues d) q here in
    let (r, receiver) = the_receiver queues d q accepted t.0 in
    receiver.all m below at ∙ sym (eqb-true i r (sym (receiver.takes i) ∙ t.1))

-- What came back of all instances holds the queues of the chart.
use Rattle.std.proofs.Common.{◌≡◌, ℕ, Bool, true, List, length, get_or, map, ap, ◌∙◌, arith, subst, option_map}
use Rattle.std.specs.Prelude.{All}
use Rattle.std.proofs.lemmas.Option.{slice_get-get_or, slice_get-map}
use Rattle.msc_chart.specs.declared.queue.Queues.{Queues}
use Rattle.msc_chart.specs.Lists.{occurs}
use Rattle.msc_chart.specs.Laws.{sends_to, senders_in}
use Rattle.msc_chart.specs.Drawings.{Drawing, IsAccepted}
use Rattle.msc_fifo.specs.Identity.{QueueId}
use Rattle.msc_fifo.specs.Ends.{new_outlet, new_inlet}
use Rattle.msc_execution.specs.Roles.{EndLists, Role, role, queues_in, sent_queues, taken_queues, takes_from, rank_of, quota_of, wired_ends, IsWiring}
use Rattle.msc_execution.specs.Growth.{IsLeftBy, HasTaken}
use Rattle.msc_execution.specs.Running.{Left, HasRun}
use Rattle.msc_execution.specs.Fits.{no_ends}
use Rattle.msc_execution.specs.Settling.{HaveRunFrom, RunsHoldQueues}
use Rattle.msc_execution.proofs.Lists.Words.{passes}
use Rattle.msc_execution.proofs.Lists.Among.{among_occurs}
use Rattle.msc_execution.proofs.Settling.Buckets.{numbers_stay}
use Rattle.msc_instance.specs.Buckets.{HasEndsOf, HoldQueues}

-- ends whose numbers are these
numbered : {A : Type 0} (numbers own : List ℕ) (ns : List (ℕ × A)) → map (λ (n : ℕ × A). n.0) ns ≡ own
    → ((q : ℕ) → occurs own q ≡ true → occurs numbers q ≡ true) → All (λ (n : ℕ × A). occurs numbers n.0 ≡ true) ns
numbered {A} numbers own ns is within k x lt =
    within (get_or ns k x).0
    (subst (λ (l : List ℕ). occurs l (get_or ns k x).0 ≡ true) is
    (among_occurs (map (λ (n : ℕ × A). n.0) ns) (get_or ns k x).0 k
    (slice_get-map (λ (n : ℕ × A). n.0) ns k ∙ ap (option_map (λ (n : ℕ × A). n.0)) (slice_get-get_or ns k x lt))))

-- a queue to which an instance sends is one of the chart's
sent_known : (r : Role) (q : ℕ) → occurs (sent_queues r) q ≡ true → occurs (queues_in r.queues r.chart) q ≡ true
unfolding sent_queues
sent_known r q h = (passes (λ k. sends_to r.queues r.chart k r.number) (queues_in r.queues r.chart) q h).0

-- and one from which it takes
taken_known : (r : Role) (q : ℕ) → occurs (taken_queues r) q ≡ true → occurs (queues_in r.queues r.chart) q ≡ true
unfolding taken_queues
taken_known r q h = (passes (λ k. takes_from r.queues r.chart k r.number) (queues_in r.queues r.chart) q h).0

-- the ends of an instance are of queues of the chart, after its run too
ends_known : (queues : Queues) (d : Drawing) (i : ℕ) (open' : Bool) (patience : ℕ) (id : ℕ → QueueId) (r : Left)
    → HasRun (role queues d i) open' patience (wired_ends id (role queues d i)) r → HasEndsOf (queues_in queues d) r
ends_known queues d i open' patience id r h =
    let own = role queues d i in
    record {
      outlets = numbered (queues_in queues d) (sent_queues own) r.ends.outlets
          (numbers_stay (IsLeftBy own r.log h.reading) (λ q. new_outlet (id q) (rank_of queues d q i) (quota_of queues d q i)) (λ x y z. z.number)
          (sent_queues own) r.ends.outlets h.run.put)
          (sent_known own);
      inlets = numbered (queues_in queues d) (taken_queues own) r.ends.inlets
          (numbers_stay (HasTaken own r.log h.reading h.run.strange) (λ q. new_inlet (id q) (length (senders_in queues d q))) (λ x y z. z.number)
          (taken_queues own) r.ends.inlets h.run.got)
          (taken_known own);
    }

-- what came back can be settled
pub hold : RunsHoldQueues → (queues : Queues) (d : Drawing) (open' : Bool) (patience : ℕ) (fresh : List EndLists) (ran : List Left)
    → IsAccepted d → IsWiring queues d fresh → HaveRunFrom queues d open' patience fresh ran → HoldQueues queues d ran
hold law queues d open' patience fresh ran accepted wiring runs = record {
  ends = λ k x lt.
      let e = get_or fresh k no_ends in
      let at = slice_get-get_or fresh k no_ends (omega (arith, lt, runs.many)) in
      let run = runs.each k e (get_or ran k x) at (slice_get-get_or ran k x lt) in
      ends_known queues d k open' patience wiring.id (get_or ran k x)
      (subst (λ (b : EndLists). HasRun (role queues d k) open' patience b (get_or ran k x)) (wiring.each k e at) run);
  each = λ q there. law queues d open' patience fresh ran q accepted wiring runs there;
}

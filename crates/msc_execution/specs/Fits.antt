-- What fresh ends and their growth give the code that hands them out, and the code that runs with
-- them.
use Rattle.std.specs.Prelude.{◌≡◌, ℕ, ◌+◌, ◌<◌, ◌≤◌, cond, List, [], ◌∷◌, ◌++◌, length, map, filter, IsTrue, Some, slice_get}
use Rattle.msc_chart.specs.declared.queue.Queues.{Queues}
use Rattle.msc_chart.specs.Lists.{occurs}
use Rattle.msc_chart.specs.Charts.{line, message, is_output}
use Rattle.msc_chart.specs.Drawings.{Drawing, IsAccepted, receiver_of}
use Rattle.msc_chart.specs.Orders.{queue_bound, queue_of}
use Rattle.msc_chart.specs.Laws.{sends_to, senders_in}
use Rattle.msc_fifo.specs.Identity.{QueueId}
use Rattle.msc_execution.specs.Roles.{Role, EndLists, role, wired_ends, fresh_outlet, fresh_inlet, queues_below, takes_from, sent_queues, taken_queues, rank_of, quota_of, IsWiring, IsFit}
use Rattle.msc_execution.specs.Logs.{IsLogOf, sent}

-- fresh ends fit
abbrev pub WiringsFit : Type 0
WiringsFit =
    (queues : Queues) (d : Drawing) (all : List EndLists) (i : ℕ) (e : EndLists)
    → IsWiring queues d all → slice_get all i ≡ Some e → IsFit (role queues d i) e

-- each output of a line has its outlet
abbrev pub OutputsHaveOutlets : Type 0
OutputsHaveOutlets =
    (queues : Queues) (d : Drawing) (i e : ℕ) → IsAccepted d → IsTrue (is_output d.events e)
    → line d.events e ≡ i
    → IsTrue (occurs (sent_queues (role queues d i)) (queue_of queues d (message d.events e)))

-- a log sends no more to a queue than the quota
abbrev pub LogsKeepQuotas : Type 0
LogsKeepQuotas =
    (queues : Queues) (d : Drawing) (q i : ℕ) (log : List ℕ) → IsAccepted d → IsLogOf d i log
    → length (sent queues d q log) ≤ quota_of queues d q i

-- the messages of a queue from which an instance takes come to it
abbrev pub InletsBringOwn : Type 0
InletsBringOwn =
    (queues : Queues) (d : Drawing) (q i m : ℕ) → IsAccepted d
    → IsTrue (occurs (taken_queues (role queues d i)) q)
    → m < length d.messages → queue_of queues d m ≡ q → receiver_of d m ≡ i

-- the queues below n to which an instance sends, ascending
unfoldable pub sent_below : Role → ℕ → List ℕ
sent_below r n =
    filter (λ q. sends_to r.queues r.chart q r.number) (queues_below r.queues r.chart n)

-- the queues below n from which an instance takes, ascending
unfoldable pub taken_below : Role → ℕ → List ℕ
taken_below r n =
    filter (λ q. takes_from r.queues r.chart q r.number) (queues_below r.queues r.chart n)

-- no outlet and no inlet
abbrev pub no_ends : EndLists
no_ends = record { outlets = []; inlets = [] }

-- the ends that an instance has once the queues with numbers below n are handed out
abbrev pub wired_below : (ℕ → QueueId) → Role → ℕ → EndLists
wired_below id r n = record {
  outlets = map (fresh_outlet id r) (sent_below r n);
  inlets = map (fresh_inlet id r) (taken_below r n);
}

-- One queue more is handed out: an outlet to each instance that sends to it, the inlet to the one
-- that takes from it. Which queue a number from n on has makes no difference so far.
pub record IsWiringStep (r : Role) (n : ℕ) : Type 0 where
  pub outlets : (id : ℕ → QueueId) → (wired_below id r (n + 1)).outlets
      ≡ (wired_below id r n).outlets
      ++ cond (sends_to r.queues r.chart n r.number) (fresh_outlet id r n ∷ []) []
  pub inlets : (id : ℕ → QueueId) → (wired_below id r (n + 1)).inlets
      ≡ (wired_below id r n).inlets
      ++ cond (takes_from r.queues r.chart n r.number) (fresh_inlet id r n ∷ []) []
  pub same : (id other : ℕ → QueueId) → ((q : ℕ) → q < n → id q ≡ other q)
      → wired_below id r n ≡ wired_below other r n

-- queue by queue, from no ends to the fresh ends
pub record WiringGrows : Type 0 where
  pub none : (id : ℕ → QueueId) (r : Role) → wired_below id r 0 ≡ no_ends
  pub step : (r : Role) (n : ℕ) → IsWiringStep r n
  pub whole : (id : ℕ → QueueId) (r : Role)
      → wired_below id r (queue_bound r.queues r.chart) ≡ wired_ends id r

-- the k-th sender of a queue is of rank k
abbrev pub SendersAreRanked : Type 0
SendersAreRanked =
    (queues : Queues) (d : Drawing) (q k i : ℕ) → slice_get (senders_in queues d q) k ≡ Some i
    → rank_of queues d q i ≡ k

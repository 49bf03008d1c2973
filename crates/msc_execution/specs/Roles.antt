-- An instance's part in an execution: the queues to which it sends, those from which it takes, and
-- the ends that it has of them.
use Rattle.std.specs.Prelude.{◌≡◌, ℕ, ◌+◌, ◌≤◌, Bool, false, List, length, filter, map, count_by, All, nat_eq, nat_lt, Some, slice_get}
use Rattle.std.specs.List.{list_any, range_with_len}
use Rattle.msc_chart.specs.declared.queue.Queues.{Queues}
use Rattle.msc_chart.specs.Drawings.{Drawing, sender_of, receiver_of}
use Rattle.msc_chart.specs.Laws.{messages_in, sends_to, senders_in}
use Rattle.msc_chart.specs.Orders.{queue_bound}
use Rattle.msc_fifo.specs.Identity.{QueueId}
use Rattle.msc_fifo.specs.Ends.{OutletState, InletState, new_outlet, new_inlet}

-- an instance of a chart under an architecture
pub record Role : Type 0 where
  pub queues : Queues
  pub chart : Drawing
  pub number : ℕ

-- the part of instance i of a chart
abbrev pub role : Queues → Drawing → ℕ → Role
role queues d i = record { queues = queues; chart = d; number = i }

-- an outlet with the number of its queue
abbrev pub NumberedOutlet : Type 0
NumberedOutlet = ℕ × OutletState

-- and an inlet with that of its own
abbrev pub NumberedInlet : Type 0
NumberedInlet = ℕ × InletState

-- the ends of an instance
pub record EndLists : Type 0 where
  pub outlets : List NumberedOutlet
  pub inlets : List NumberedInlet

-- the numbers below n of the queues that have a message, ascending
unfoldable pub queues_below : Queues → Drawing → ℕ → List ℕ
queues_below queues d n =
    filter (λ q. nat_lt 0 (length (messages_in queues d q))) (range_with_len 0 n)

-- the numbers of the queues that have a message, ascending
abbrev pub queues_in : Queues → Drawing → List ℕ
queues_in queues d = queues_below queues d (queue_bound queues d)

-- instance i takes the messages of the queue
unfoldable pub takes_from : Queues → Drawing → ℕ → ℕ → Bool
takes_from queues d q i = list_any (λ m. nat_eq (receiver_of d m) i) (messages_in queues d q)

-- how many messages instance i sends to the queue
unfoldable pub quota_of : Queues → Drawing → ℕ → ℕ → ℕ
quota_of queues d q i = count_by (λ m. nat_eq (sender_of d m) i) (messages_in queues d q)

-- the number of instance i among the senders of the queue
unfoldable pub rank_of : Queues → Drawing → ℕ → ℕ → ℕ
rank_of queues d q i = count_by (sends_to queues d q) (range_with_len 0 i)

-- the queues to which an instance sends, ascending
unfoldable pub sent_queues : Role → List ℕ
sent_queues r = filter (λ q. sends_to r.queues r.chart q r.number) (queues_in r.queues r.chart)

-- the queues from which an instance takes, ascending
unfoldable pub taken_queues : Role → List ℕ
taken_queues r = filter (λ q. takes_from r.queues r.chart q r.number) (queues_in r.queues r.chart)

-- the fresh outlet of an instance to queue q, where `id` tells which queue has a number
abbrev pub fresh_outlet : (ℕ → QueueId) → Role → ℕ → NumberedOutlet
fresh_outlet id r q = (
  q,
  new_outlet (id q) (rank_of r.queues r.chart q r.number)
      (quota_of r.queues r.chart q r.number),
)

-- its fresh inlet from queue q
abbrev pub fresh_inlet : (ℕ → QueueId) → Role → ℕ → NumberedInlet
fresh_inlet id r q = (q, new_inlet (id q) (length (senders_in r.queues r.chart q)))

-- the ends of an instance before anything is sent
abbrev pub wired_ends : (ℕ → QueueId) → Role → EndLists
wired_ends id r = record {
  outlets = map (fresh_outlet id r) (sent_queues r);
  inlets = map (fresh_inlet id r) (taken_queues r);
}

-- fresh ends for each instance: one queue for each number that has a message
pub record IsWiring (queues : Queues) (d : Drawing) (all : List EndLists) : Type 0 where
  pub many : length all ≡ length d.instances
  pub id : ℕ → QueueId
  pub each : (i : ℕ) (e : EndLists) → slice_get all i ≡ Some e → e ≡ wired_ends id (role queues d i)

-- For each queue to which the instance sends there is one outlet, open and with room for what it
-- sends; for each from which it takes there is one inlet; there are no others, and both lists
-- ascend.
pub record IsFit (r : Role) (ends : EndLists) : Type 0 where
  pub outlets : map (λ (o : NumberedOutlet). o.0) ends.outlets ≡ sent_queues r
  pub inlets : map (λ (n : NumberedInlet). n.0) ends.inlets ≡ taken_queues r
  pub room : All (λ (o : NumberedOutlet). (o.1.closed ≡ false)
      × (length o.1.put + quota_of r.queues r.chart o.0 r.number ≤ o.1.quota)) ends.outlets

-- What came back of the instances, by their numbers, and what is known of it.
use Rattle.std.specs.Prelude.{◌≡◌, ℕ, zero, suc, ◌<◌, ◌≤◌, Bool, true, List, [], ◌∷◌, ◌++◌, length, nat_eq, map, IsTrue, Some, slice_get, vec_len}
use Rattle.std.specs.List.{AllZip}
use Rattle.msc_chart.specs.declared.queue.Queues.{Queues}
use Rattle.msc_chart.specs.Lists.{Occurs}
use Rattle.msc_chart.specs.Drawings.{Drawing}
use Rattle.msc_chart.specs.Laws.{senders_in, sends_to}
use Rattle.msc_fifo.specs.Identity.{QueueId}
use Rattle.msc_fifo.specs.declared.entry.Entry.{Entry}
use Rattle.msc_fifo.specs.Entries.{messages_of}
use Rattle.msc_fifo.specs.Ends.{OutletState, InletState, AreOutletsOf}
use Rattle.msc_fifo.specs.Laws.{AreNumberedFrom}
use Rattle.msc_fifo.specs.declared.accounts.Account.{Account}
use Rattle.msc_fifo.specs.declared.accounts.Settled.{Settled}
use Rattle.msc_ending.specs.declared.end.End.{End}
use Rattle.msc_execution.specs.Roles.{EndLists, NumberedOutlet, NumberedInlet, role, wired_ends, queues_in, takes_from, rank_of}
use Rattle.msc_execution.specs.Logs.{IsLogOf, Reading, sent, received, received_from}
use Rattle.msc_execution.specs.Growth.{IsLeftBy, HasTaken, all_messages}
use Rattle.msc_execution.specs.Running.{Left, HasRun, EndsAs}
use Rattle.msc_execution.specs.Executions.{Outcome, log_at, end_at}
use Rattle.msc_execution.specs.Settling.{of_queue, IsSettledOf}

-- the lists of the first n instances, one after the other
abbrev pub together : {A : Type 0} → (ℕ → List A) → ℕ → List A
together f zero = []
together f (suc n) = together f n ++ f n

-- what came back of each instance
pub record Came : Type 0 where
  pub logs : ℕ → List ℕ
  pub back : ℕ → EndLists
  pub ends : ℕ → End

-- what instance i left
abbrev pub left_at : Came → ℕ → Left
left_at c i = record { log = c.logs i; ends = c.back i; end = c.ends i }

-- what came back, with the logs and ends of an outcome
abbrev pub came_of : Outcome → (ℕ → EndLists) → Came
came_of o back = record { logs = log_at o; back = back; ends = end_at o }

-- the outlets of the first n instances
abbrev pub all_outlets : Came → ℕ → List NumberedOutlet
all_outlets c n = together (λ i. (c.back i).outlets) n

-- the inlets of the first n instances
abbrev pub all_inlets : Came → ℕ → List NumberedInlet
all_inlets c n = together (λ i. (c.back i).inlets) n

-- the ends of each instance came back grown from its fresh ones
pub record HaveGrown (queues : Queues) (d : Drawing) (id : ℕ → QueueId) (c : Came) : Type 0 where
  pub readings : ℕ → Reading
  pub strange : ℕ → ℕ → List ℕ
  pub put : (i : ℕ) → i < length d.instances
      → AllZip (IsLeftBy (role queues d i) (c.logs i) (readings i))
      (wired_ends id (role queues d i)).outlets (c.back i).outlets
  pub got : (i : ℕ) → i < length d.instances
      → AllZip (HasTaken (role queues d i) (c.logs i) (readings i) (strange i))
      (wired_ends id (role queues d i)).inlets (c.back i).inlets

-- the outlet of instance i to the queue, after its log
pub record IsOutletOf (queues : Queues) (d : Drawing) (id : ℕ → QueueId) (c : Came) (q : ℕ) (i : ℕ)
    (o : OutletState) : Type 0 where
  pub queue : o.queue ≡ id q
  pub sender : o.sender ≡ rank_of queues d q i
  pub put : o.put ≡ sent queues d q (c.logs i)
  pub closed : o.closed ≡ true

-- the inlet of instance i from the queue, after its log and what was strange
pub record IsInletOf (queues : Queues) (d : Drawing) (id : ℕ → QueueId) (c : Came)
    (strange : ℕ → ℕ → List ℕ) (q : ℕ) (i : ℕ) (n : InletState) : Type 0 where
  pub queue : n.queue ≡ id q
  pub senders : n.senders ≡ length (senders_in queues d q)
  pub got : all_messages n.got ≡ received queues d q (c.logs i) ++ strange i q

-- The ends of one queue, taken out of all that came back: the outlets of its senders in their
-- order, which are all its outlets, and one inlet, of the instance that takes from it.
pub record AreEndsOf (queues : Queues) (d : Drawing) (id : ℕ → QueueId) (c : Came)
    (strange : ℕ → ℕ → List ℕ) (q : ℕ) : Type 0 where
  pub outlets : AllZip (IsOutletOf queues d id c q) (senders_in queues d q)
      (of_queue q (all_outlets c (length d.instances)))
  pub numbered : AreNumberedFrom 0 (of_queue q (all_outlets c (length d.instances)))
  pub receiver : ℕ
  pub within : receiver < length d.instances
  pub takes : (i : ℕ) → takes_from queues d q i ≡ nat_eq i receiver
  pub inlet : InletState
  pub alone : of_queue q (all_inlets c (length d.instances)) ≡ inlet ∷ []
  pub is_inlet : IsInletOf queues d id c strange q receiver inlet
  pub whole : AreOutletsOf inlet (of_queue q (all_outlets c (length d.instances)))

-- each instance ran from its fresh ends
abbrev pub HaveRunFresh : Queues → Drawing → Bool → ℕ → (ℕ → QueueId) → Came → Type 0
HaveRunFresh queues d open' patience id c =
    (i : ℕ) → i < length d.instances
    → HasRun (role queues d i) open' patience (wired_ends id (role queues d i)) (left_at c i)

-- the same, with what is strange and what was read told for all instances at once
pub record HaveEnded (queues : Queues) (d : Drawing) (open' : Bool) (patience : ℕ)
    (id : ℕ → QueueId) (c : Came) : Type 0 where
  pub grown : HaveGrown queues d id c
  pub logs : (i : ℕ) → i < length d.instances → IsLogOf d i (c.logs i)
  pub ended : (i : ℕ) → i < length d.instances
      → EndsAs (role queues d i) open' patience (grown.readings i) (left_at c i) (grown.strange i)
      (c.ends i)

-- the account of the instance as a sender of the queue, where the inlet got these entries
pub record IsAccountOfLog (queues : Queues) (d : Drawing) (c : Came) (q : ℕ) (got : List Entry)
    (i : ℕ) (a : Account) : Type 0 where
  pub put : a.put ≡ sent queues d q (c.logs i)
  pub taken : a.taken ≡ messages_of (rank_of queues d q i) got
  pub left : a.put ≡ a.taken ++ a.left
  pub closed : a.closed ≡ true

-- the account of each sender, ascending, and nothing of any other
pub record AreAccountsOfLogs (queues : Queues) (d : Drawing) (c : Came) (q : ℕ) (got : List Entry)
    (s : Settled) : Type 0 where
  pub many : vec_len s.senders ≡ length (senders_in queues d q)
  pub rank : (k i : ℕ) → slice_get (senders_in queues d q) k ≡ Some i → rank_of queues d q i ≡ k
  pub each : (k i : ℕ) → slice_get (senders_in queues d q) k ≡ Some i
      → (a : Account) × (slice_get s.senders.items k ≡ Some a) × IsAccountOfLog queues d c q got i a
  pub none : (j : ℕ) → length (senders_in queues d q) ≤ j → messages_of j got ≡ []

-- each queue with a message was settled, from its one inlet and its outlets among all that came
-- back
pub record AreSettled (queues : Queues) (d : Drawing) (c : Came)
    (settled : List (ℕ × Settled)) : Type 0 where
  pub numbers : map (λ (s : ℕ × Settled). s.0) settled ≡ queues_in queues d
  pub each : (q : ℕ) (s : Settled) → Occurs settled (q, s)
      → (inlet : InletState) × (of_queue q (all_inlets c (length d.instances)) ≡ inlet ∷ [])
      × IsSettledOf inlet (of_queue q (all_outlets c (length d.instances))) s

-- What a queue's inlet got is what its receiver logged as taken, and of each sender what the
-- receiver logged of it.
pub record IsTold (queues : Queues) (d : Drawing) (c : Came) (q : ℕ) (r : ℕ)
    (got : List Entry) : Type 0 where
  pub all : all_messages got ≡ received queues d q (c.logs r)
  pub each : (i : ℕ) → i < length d.instances → IsTrue (sends_to queues d q i)
      → messages_of (rank_of queues d q i) got ≡ received_from queues d q i (c.logs r)

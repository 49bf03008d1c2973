-- Executions: what the instances of a chart logged and how they ended, and the settled queues.
use Rattle.std.specs.Prelude.{◌≡◌, ◌≢◌, ℕ, ◌<◌, Bool, true, List, [], ◌∷◌, ◌++◌, length, get_or, map, Option, IsTrue, Some, None, slice_get, vec_len}
use Rattle.msc_chart.specs.declared.queue.Queues.{Queues}
use Rattle.msc_chart.specs.Lists.{occurs, Occurs}
use Rattle.msc_chart.specs.Charts.{line}
use Rattle.msc_chart.specs.Drawings.{Drawing}
use Rattle.msc_chart.specs.Laws.{senders_in}
use Rattle.msc_fifo.specs.Identity.{QueueId}
use Rattle.msc_fifo.specs.Ends.{OutletState, InletState, AreOutletsOf}
use Rattle.msc_fifo.specs.Settlement.{IsSettled}
use Rattle.msc_fifo.specs.declared.accounts.Account.{Account}
use Rattle.msc_fifo.specs.declared.accounts.Settled.{Settled}
use Rattle.msc_fifo.specs.declared.places.Place.{Place}
use Rattle.msc_ending.specs.declared.end.End.{End}
use Rattle.msc_ending.specs.declared.end.End.TheVariants.{Finished, Foreign}
use Rattle.msc_execution.specs.Roles.{EndLists, role, wired_ends, queues_in, takes_from}
use Rattle.msc_execution.specs.Logs.{Begins, sent, received, received_from}
use Rattle.msc_execution.specs.Running.{HasRun}

-- what an execution leaves, by instances and by queues
pub record Outcome : Type 0 where
  pub logs : List (List ℕ)
  pub ends : List End
  pub settled : List (ℕ × Settled)

-- the log of instance i
abbrev pub log_at : Outcome → ℕ → List ℕ
log_at o i = get_or o.logs i []

-- how it ended
abbrev pub end_at : Outcome → ℕ → End
end_at o i = get_or o.ends i Finished

-- the account of instance i as a sender of the queue: what it logged as sent there, and of that
-- what the receiver logged as taken; what is left is the rest
pub record IsTrafficOf (queues : Queues) (d : Drawing) (o : Outcome) (q i : ℕ)
    (a : Account) : Type 0 where
  pub put : a.put ≡ sent queues d q (log_at o i)
  pub taken : (r : ℕ) → IsTrue (takes_from queues d q r)
      → a.taken ≡ received_from queues d q i (log_at o r)
  pub left : a.put ≡ a.taken ++ a.left
  pub closed : a.closed ≡ true

-- a message, where there is one, before others
abbrev pub message_and : Option ℕ → List ℕ → List ℕ
message_and (Some m) ms = m ∷ ms
message_and None ms = ms

-- the messages at these places, in order
abbrev pub placed_messages : List Place → List ℕ
placed_messages [] = []
placed_messages (p ∷ ps) = message_and p.message (placed_messages ps)

-- A settled queue: an account for each sender, ascending; and what the receiver logged, of all
-- senders in order, are the messages of the queue's first places.
pub record AreAccounts (queues : Queues) (d : Drawing) (o : Outcome) (q : ℕ)
    (s : Settled) : Type 0 where
  pub many : vec_len s.senders ≡ length (senders_in queues d q)
  pub each : (k i : ℕ) → slice_get (senders_in queues d q) k ≡ Some i
      → (a : Account) × (slice_get s.senders.items k ≡ Some a) × IsTrafficOf queues d o q i a
  pub first : (r : ℕ) → IsTrue (takes_from queues d q r)
      → Begins (received queues d q (log_at o r)) (placed_messages s.places.items)

-- A queue was settled from the ends that came back from n instances: its inlet from one of them,
-- its outlets from all.
pub record IsSettledFrom (n : ℕ) (back : ℕ → EndLists) (q : ℕ) (places : List Place) : Type 0 where
  pub inlet : InletState
  pub outlets : List OutletState
  pub receiver : ℕ
  pub is_instance : receiver < n
  pub own : Occurs (back receiver).inlets (q, inlet)
  pub all_there : (i : ℕ) (x : OutletState) → i < n → Occurs (back i).outlets (q, x)
      → Occurs outlets x
  pub no_others : (x : OutletState) → Occurs outlets x
      → (i : ℕ) × (i < n) × Occurs (back i).outlets (q, x)
  pub are_outlets : AreOutletsOf inlet outlets
  pub is_settled : IsSettled inlet outlets places

-- An execution is what its instances logged: each ran from fresh ends, each queue was settled from
-- the ends that came back, and nothing strange was got.
pub record IsExecution (queues : Queues) (d : Drawing) (open' : Bool) (patience : ℕ)
    (o : Outcome) : Type 0 where
  pub logs : length o.logs ≡ length d.instances
  pub ends : length o.ends ≡ length d.instances
  pub id : ℕ → QueueId
  pub back : ℕ → EndLists
  pub runs : (i : ℕ) → i < length d.instances
      → HasRun (role queues d i) open' patience (wired_ends id (role queues d i))
      (record { log = log_at o i; ends = back i; end = end_at o i })
  pub numbers : map (λ (s : ℕ × Settled). s.0) o.settled ≡ queues_in queues d
  pub accounts : (q : ℕ) (s : Settled) → Occurs o.settled (q, s) → AreAccounts queues d o q s
  pub places : (q : ℕ) (s : Settled) → Occurs o.settled (q, s)
      → IsSettledFrom (length d.instances) back q s.places.items
  pub own : (i m : ℕ) → end_at o i ≢ Foreign m

-- all instances have finished
abbrev pub AreFinished : List End → Type 0
AreFinished ends = (i : ℕ) → i < length ends → get_or ends i Finished ≡ Finished

-- a finished execution: each log is whole, and nothing is left in a queue
pub record IsFinished (d : Drawing) (o : Outcome) : Type 0 where
  pub whole : (e : ℕ) → e < length d.events → IsTrue (occurs (log_at o (line d.events e)) e)
  pub empty : (q : ℕ) (s : Settled) (k : ℕ) (a : Account) → Occurs o.settled (q, s)
      → slice_get s.senders.items k ≡ Some a → a.left ≡ []

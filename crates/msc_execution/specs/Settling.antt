-- From the runs of the instances and the settled queues to an execution, over the lists that the
-- code which runs them has in hand.
use Rattle.std.specs.Prelude.{◌≡◌, ℕ, Bool, cond, List, [], ◌∷◌, length, nat_eq, map, All, IsTrue, Some, slice_get, vec_len}
use Rattle.std.specs.List.{flat_map}
use Rattle.msc_chart.specs.declared.queue.Queues.{Queues}
use Rattle.msc_chart.specs.Lists.{occurs, Occurs}
use Rattle.msc_chart.specs.Drawings.{Drawing, IsAccepted}
use Rattle.msc_fifo.specs.Entries.{IsOrderly}
use Rattle.msc_fifo.specs.Ends.{OutletState, InletState, AreOutletsOf}
use Rattle.msc_fifo.specs.Settlement.{HasAccount, IsSettled}
use Rattle.msc_fifo.specs.declared.accounts.Settled.{Settled}
use Rattle.msc_execution.specs.Roles.{EndLists, NumberedOutlet, NumberedInlet, role, queues_in, IsWiring}
use Rattle.msc_execution.specs.Running.{Left, HasRun}
use Rattle.msc_execution.specs.Executions.{Outcome, IsExecution, AreFinished, IsFinished}

-- of things with numbers, those with the number q, in their order
abbrev pub of_queue : {A : Type 0} → ℕ → List (ℕ × A) → List A
of_queue q [] = []
of_queue q (x ∷ xs) = cond (nat_eq x.0 q) (x.1 ∷ of_queue q xs) (of_queue q xs)

-- all outlets that came back, instance by instance
abbrev pub outlets_back : List Left → List NumberedOutlet
outlets_back ran = flat_map (λ (r : Left). r.ends.outlets) ran

-- all inlets that came back, instance by instance
abbrev pub inlets_back : List Left → List NumberedInlet
inlets_back ran = flat_map (λ (r : Left). r.ends.inlets) ran

-- each instance ran from its fresh ends, in the order of the instances
pub record HaveRunFrom (queues : Queues) (d : Drawing) (open' : Bool) (patience : ℕ)
    (fresh : List EndLists) (ran : List Left) : Type 0 where
  pub many : length ran ≡ length fresh
  pub each : (i : ℕ) (e : EndLists) (r : Left) → slice_get fresh i ≡ Some e
      → slice_get ran i ≡ Some r
      → HasRun (role queues d i) open' patience e r

-- A queue was settled from this inlet and these outlets: an account for each sender, and the
-- places that were claimed.
pub record IsSettledOf (inlet : InletState) (outlets : List OutletState)
    (s : Settled) : Type 0 where
  pub count : vec_len s.senders ≡ inlet.senders
  pub accounts : All (HasAccount s.senders.items inlet.got) outlets
  pub places : IsSettled inlet outlets s.places.items
  pub orderly : IsOrderly inlet.senders inlet.got

-- each queue with a message was settled, ascending, from its ends among all that came back
pub record AreSettledBack (queues : Queues) (d : Drawing) (ran : List Left)
    (settled : List (ℕ × Settled)) : Type 0 where
  pub numbers : map (λ (s : ℕ × Settled). s.0) settled ≡ queues_in queues d
  pub each : (q : ℕ) (s : Settled) → Occurs settled (q, s)
      → (inlet : InletState) × (of_queue q (inlets_back ran) ≡ inlet ∷ [])
      × IsSettledOf inlet (of_queue q (outlets_back ran)) s

-- Before settling: each queue with a message has one inlet among all that came back, and all its
-- outlets.
abbrev pub RunsHoldQueues : Type 0
RunsHoldQueues =
    (queues : Queues) (d : Drawing) (open' : Bool) (patience : ℕ) (fresh : List EndLists)
    (ran : List Left) (q : ℕ)
    → IsAccepted d → IsWiring queues d fresh → HaveRunFrom queues d open' patience fresh ran
    → IsTrue (occurs (queues_in queues d) q)
    → (inlet : InletState) × (of_queue q (inlets_back ran) ≡ inlet ∷ [])
    × AreOutletsOf inlet (of_queue q (outlets_back ran))

-- After settling: what came back and the settled queues are an execution.
abbrev pub SettledRunsAreExecutions : Type 0
SettledRunsAreExecutions =
    (queues : Queues) (d : Drawing) (open' : Bool) (patience : ℕ) (fresh : List EndLists)
    (ran : List Left) (o : Outcome)
    → IsAccepted d → IsWiring queues d fresh → HaveRunFrom queues d open' patience fresh ran
    → o.logs ≡ map (λ (r : Left). r.log) ran → o.ends ≡ map (λ (r : Left). r.end) ran
    → AreSettledBack queues d ran o.settled → IsExecution queues d open' patience o

-- Where all instances have finished, all logs are whole and nothing is left in a queue.
abbrev pub FinishedExecutionsLeaveNothing : Type 0
FinishedExecutionsLeaveNothing =
    (queues : Queues) (d : Drawing) (open' : Bool) (patience : ℕ) (o : Outcome)
    → IsAccepted d → IsExecution queues d open' patience o → AreFinished o.ends → IsFinished d o

-- What an execution shows of clocks and runs: the places of its settled queues, by their outputs,
-- and what is known of them.
use Rattle.std.specs.Prelude.{◌≡◌, ◌≢◌, ℕ, ◌<◌, ◌≤◌, Bool, true, cond, List, [], ◌∷◌, ◌++◌, length, map, nat_eq, Option, Some, None, IsTrue}
use Rattle.msc_chart.specs.declared.queue.Queues.{Queues}
use Rattle.msc_chart.specs.Lists.{occurs}
use Rattle.msc_chart.specs.Drawings.{Drawing, IsAccepted, output_of}
use Rattle.msc_chart.specs.Orders.{wired}
use Rattle.msc_chart.specs.Runs.{Run, HasLines, HasNoMerge}
use Rattle.msc_fifo.specs.declared.accounts.Settled.{Settled}
use Rattle.msc_fifo.specs.declared.places.Place.{Place}
use Rattle.msc_ending.specs.declared.end.End.TheVariants.{Stopped}
use Rattle.msc_execution.specs.Logs.{clock_along}
use Rattle.msc_execution.specs.Executions.{Outcome, IsExecution, log_at, end_at}
use Rattle.msc_execution.specs.Clocks.{QueuePlace, Places, messages, place_clock, trace_of}
use Rattle.msc_execution.specs.Clocks.QueuePlace.{Message, EndMark}
use Rattle.msc_execution.specs.Timed.{IsTimed, all_puts}

-- the places of the settled queue with this number, none where no queue has it
abbrev pub places_at : List (ℕ × Settled) → ℕ → List Place
places_at [] q = []
places_at (x ∷ xs) q = cond (nat_eq x.0 q) x.1.places.items (places_at xs q)

-- a place of this sender, with a message or with an end mark
abbrev pub place_as : Drawing → ℕ → Option ℕ → ℕ → QueuePlace
place_as d i (Some m) n = Message i (output_of d m) n
place_as d i None n = EndMark i

-- a place of a settled queue, where the message is given by its output
abbrev pub as_place : Drawing → Place → QueuePlace
as_place d s = place_as d s.sender s.message s.clock

-- the places of all queues of an execution
abbrev pub shown_places : Drawing → Outcome → Places
shown_places d o q = map (as_place d) (places_at o.settled q)

-- the events of an execution, sorted by their keys
abbrev pub trace_in : Queues → Drawing → Outcome → List ℕ
trace_in queues d o = trace_of (wired queues d) o.logs (shown_places d o)

-- the logs and the places of an execution fit one another
abbrev pub ExecutionsAreTimed : Type 0
ExecutionsAreTimed =
    (queues : Queues) (d : Drawing) (open' : Bool) (patience : ℕ) (o : Outcome)
    → IsAccepted d → IsExecution queues d open' patience o
    → IsTimed (wired queues d) (length d.instances) o.logs (shown_places d o)

-- the events of an execution, sorted by their keys, are a run, and its lines are the logs
abbrev pub ExecutionsAreRuns : Type 0
ExecutionsAreRuns =
    (queues : Queues) (d : Drawing) (open' : Bool) (patience : ℕ) (o : Outcome)
    → IsAccepted d → IsExecution queues d open' patience o
    → Run (wired queues d) (trace_in queues d o)
    × HasLines (wired queues d) (length d.instances) o.logs (trace_in queues d o)

-- so some run has the logs as its lines
abbrev pub ExecutionsHaveAMerge : Type 0
ExecutionsHaveAMerge =
    (queues : Queues) (d : Drawing) (open' : Bool) (patience : ℕ) (o : Outcome)
    → IsAccepted d → IsExecution queues d open' patience o
    → HasNoMerge (wired queues d) (length d.instances) o.logs → ⊥

-- no more messages are put than the chart has
abbrev pub NoMoreIsPut : Type 0
NoMoreIsPut =
    (queues : Queues) (d : Drawing) (open' : Bool) (patience : ℕ) (o : Outcome)
    → IsAccepted d → IsExecution queues d open' patience o
    → length (all_puts (wired queues d) o.logs) ≤ length d.messages

-- no clock of an instance, after any beginning of its log, is greater than the number of messages
-- that are put
abbrev pub NoClockIsSpent : Type 0
NoClockIsSpent =
    (queues : Queues) (d : Drawing) (open' : Bool) (patience : ℕ) (o : Outcome)
    → IsAccepted d → (execution : IsExecution queues d open' patience o)
    → (i : ℕ) (below : i < length d.instances) (past rest : List ℕ) → log_at o i ≡ past ++ rest
    → clock_along d (execution.runs i below).reading.read_at past
    ≤ length (all_puts (wired queues d) o.logs)

-- and no clock of a place
abbrev pub NoPlaceClockIsSpent : Type 0
NoPlaceClockIsSpent =
    (queues : Queues) (d : Drawing) (open' : Bool) (patience : ℕ) (o : Outcome)
    → IsAccepted d → IsExecution queues d open' patience o
    → (q s : ℕ) → IsTrue (occurs (messages (shown_places d o q)) s)
    → place_clock (shown_places d o q) s ≤ length (all_puts (wired queues d) o.logs)

-- so with an open gate no instance is stopped
abbrev pub NobodyIsStopped : Type 0
NobodyIsStopped =
    (queues : Queues) (d : Drawing) (patience : ℕ) (o : Outcome)
    → IsAccepted d → IsExecution queues d true patience o → (i : ℕ) → end_at o i ≢ Stopped

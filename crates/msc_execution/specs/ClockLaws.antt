-- Laws of the clocks of an execution of an accepted chart, under each architecture.
use Rattle.std.specs.Prelude.{◌≡◌, ℕ, ◌<◌, ◌≤◌, ◌++◌, [], List, IsTrue, length, get_or}
use Rattle.msc_chart.specs.declared.queue.Queues.{Queues}
use Rattle.msc_chart.specs.Lists.{occurs}
use Rattle.msc_chart.specs.Drawings.{Drawing, IsAccepted}
use Rattle.msc_chart.specs.Orders.{wired}
use Rattle.msc_chart.specs.Runs.{Run, HasLines, HasNoMerge}
use Rattle.msc_execution.specs.Clocks.{Places, messages, place_clock, clock_after, trace_of}
use Rattle.msc_execution.specs.Timed.{IsTimed, all_puts}

-- the logs sorted by the keys of their events are a run, and its lines are the logs
abbrev pub EveryExecutionIsARun : Type 0
EveryExecutionIsARun =
    (queues : Queues) (d : Drawing) → IsAccepted d → (logs : List (List ℕ)) (places : Places)
    → IsTimed (wired queues d) (length d.instances) logs places
    → Run (wired queues d) (trace_of (wired queues d) logs places)
    × HasLines (wired queues d) (length d.instances) logs (trace_of (wired queues d) logs places)

-- so some run has the logs as its lines
abbrev pub EveryExecutionHasAMerge : Type 0
EveryExecutionHasAMerge =
    (queues : Queues) (d : Drawing) → IsAccepted d → (logs : List (List ℕ)) (places : Places)
    → IsTimed (wired queues d) (length d.instances) logs places
    → HasNoMerge (wired queues d) (length d.instances) logs → ⊥

-- no clock of an instance, after any beginning of its log, is greater than the number of messages
-- put
abbrev pub ClocksAreBounded : Type 0
ClocksAreBounded =
    (queues : Queues) (d : Drawing) → IsAccepted d → (logs : List (List ℕ)) (places : Places)
    → IsTimed (wired queues d) (length d.instances) logs places
    → (i : ℕ) (past rest : List ℕ) → i < length d.instances → get_or logs i [] ≡ past ++ rest
    → clock_after (wired queues d) places past ≤ length (all_puts (wired queues d) logs)

-- and no clock of a place
abbrev pub PlaceClocksAreBounded : Type 0
PlaceClocksAreBounded =
    (queues : Queues) (d : Drawing) → IsAccepted d → (logs : List (List ℕ)) (places : Places)
    → IsTimed (wired queues d) (length d.instances) logs places
    → (q s : ℕ) → IsTrue (occurs (messages (places q)) s)
    → place_clock (places q) s ≤ length (all_puts (wired queues d) logs)

-- Laws of the logs of an accepted chart, under each architecture.
use Rattle.std.specs.Prelude.{◌≡◌, ℕ, ◌<◌, ◌⊎◌, ◌↔◌, List, [], Option, length, get_or, IsTrue}
use Rattle.msc_chart.specs.declared.queue.Queues.{Queues}
use Rattle.msc_chart.specs.Lists.{occurs, Steps}
use Rattle.msc_chart.specs.Charts.{line}
use Rattle.msc_chart.specs.Drawings.{Drawing, IsAccepted}
use Rattle.msc_chart.specs.Orders.{wired}
use Rattle.msc_chart.specs.Runs.{Run, IsWhole, HasLines, HasNoMerge}
use Rattle.msc_gather.specs.Gathering.{IsGathered}
use Rattle.msc_gather.specs.Schedule.{log_of, AreLogs, IsSchedule, IsSeated, MayFollow, FollowsLeast, HasAll, SomeMissing}
use Rattle.msc_gather.specs.Heads.{IsLink, IsLinkBehind, IsLogFront}

-- partners share queues, events are on the lines of the instances, and a queue has one receiver
abbrev pub ChartsAreSeated : Type 0
ChartsAreSeated =
    (queues : Queues) (d : Drawing) → IsAccepted d → IsSeated (wired queues d) (length d.instances)

-- a list is a run with these logs as its lines exactly where the logs are logs of the chart, and the
-- list has their events in an order that keeps what comes first
abbrev pub RunsWithTheseLinesAreSchedules : Type 0
RunsWithTheseLinesAreSchedules =
    (queues : Queues) (d : Drawing) → IsAccepted d → (logs : List (List ℕ)) (events : List ℕ)
    → (Run (wired queues d) events × HasLines (wired queues d) (length d.instances) logs events)
    ↔ (AreLogs (wired queues d) (length d.instances) logs × IsSchedule (wired queues d) logs events)

-- to take the least event that may follow, again and again, gathers the logs
abbrev pub TheLeastEventsGather : Type 0
TheLeastEventsGather =
    (queues : Queues) (d : Drawing) → IsAccepted d → (logs : List (List ℕ)) (events : List ℕ)
    → AreLogs (wired queues d) (length d.instances) logs
    → Steps (FollowsLeast (wired queues d) logs) [] events → HasAll (wired queues d) logs events
    → IsGathered (wired queues d) (length d.instances) logs events

-- where an event is missing and none may follow, no run has the logs
abbrev pub StuckLogsHaveNoMerge : Type 0
StuckLogsHaveNoMerge =
    (queues : Queues) (d : Drawing) → IsAccepted d → (logs : List (List ℕ)) (past : List ℕ)
    → SomeMissing (wired queues d) logs past
    → ((x : ℕ) → MayFollow (wired queues d) logs past x → ⊥)
    → HasNoMerge (wired queues d) (length d.instances) logs

-- nor where the logs are no logs of the chart
abbrev pub StrangeLogsHaveNoMerge : Type 0
StrangeLogsHaveNoMerge =
    (queues : Queues) (d : Drawing) → IsAccepted d → (logs : List (List ℕ))
    → (AreLogs (wired queues d) (length d.instances) logs → ⊥)
    → HasNoMerge (wired queues d) (length d.instances) logs

-- logs of the chart are gathered by some run, or no run has them
abbrev pub LogsAreGatheredOrNone : Type 0
LogsAreGatheredOrNone =
    (queues : Queues) (d : Drawing) → IsAccepted d → (logs : List (List ℕ))
    → AreLogs (wired queues d) (length d.instances) logs
    → ((events : List ℕ) × IsGathered (wired queues d) (length d.instances) logs events)
    ⊎ HasNoMerge (wired queues d) (length d.instances) logs

-- and by no two
abbrev pub OneRunGathers : Type 0
OneRunGathers =
    (queues : Queues) (d : Drawing) (logs : List (List ℕ)) (xs ys : List ℕ)
    → IsGathered (wired queues d) (length d.instances) logs xs
    → IsGathered (wired queues d) (length d.instances) logs ys → xs ≡ ys

-- an event that may follow is the first that is left in its log
abbrev pub FollowersAreHeads : Type 0
FollowersAreHeads =
    (queues : Queues) (d : Drawing) → IsAccepted d → (logs : List (List ℕ))
    → AreLogs (wired queues d) (length d.instances) logs
    → (past : List ℕ) → Steps (MayFollow (wired queues d) logs) [] past
    → (x k : ℕ) → IsLogFront past (log_of (wired queues d) logs x) k
    → MayFollow (wired queues d) logs past x
    → (k < length (log_of (wired queues d) logs x))
    × (get_or (log_of (wired queues d) logs x) k 0 ≡ x)

-- and the first that is left in a log may follow exactly where its link has occurred
abbrev pub LinksTellFollowers : Type 0
LinksTellFollowers =
    (queues : Queues) (d : Drawing) → IsAccepted d → (logs : List (List ℕ))
    → AreLogs (wired queues d) (length d.instances) logs
    → (past : List ℕ) → Steps (MayFollow (wired queues d) logs) [] past
    → (i k : ℕ) (link : Option ℕ) → i < length d.instances → IsLogFront past (get_or logs i []) k
    → k < length (get_or logs i []) → IsLink (wired queues d) logs (get_or (get_or logs i []) k 0)
    link
    → IsLinkBehind past link ↔ MayFollow (wired queues d) logs past (get_or (get_or logs i []) k 0)

-- where each log has all events of its line, a list with these lines is whole
abbrev pub WholeLogsGiveWholeTraces : Type 0
WholeLogsGiveWholeTraces =
    (queues : Queues) (d : Drawing) → IsAccepted d → (logs : List (List ℕ)) (events : List ℕ)
    → HasLines (wired queues d) (length d.instances) logs events
    → ((e : ℕ) → e < length d.events → IsTrue (occurs (get_or logs (line d.events e) []) e))
    → IsWhole (wired queues d) events

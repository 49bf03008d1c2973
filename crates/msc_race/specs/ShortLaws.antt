-- Laws of the short witnesses of an accepted chart, under each architecture.
use Rattle.std.specs.Prelude.{◌≡◌, ℕ, ◌<◌, List, [], length, IsTrue}
use Rattle.msc_chart.specs.declared.queue.Queues.{Queues}
use Rattle.msc_chart.specs.Lists.{occurs, Steps}
use Rattle.msc_chart.specs.Drawings.{Drawing, IsAccepted}
use Rattle.msc_chart.specs.Orders.{wired}
use Rattle.msc_chart.specs.Runs.{Run}
use Rattle.msc_race.specs.Reversals.{ComesFirst}
use Rattle.msc_race.specs.Short.{HasNeeded, IsLeastRun, IsNeededRun, IsShortNext, IsShortWitness, ShowsWithout}

-- each run that has f has all of the past of f
abbrev pub WhatIsEnforcedIsNeeded : Type 0
WhatIsEnforcedIsNeeded =
    (queues : Queues) (d : Drawing) → IsAccepted d → (events : List ℕ) → Run (wired queues d) events
    → (f : ℕ) → IsTrue (occurs events f) → HasNeeded (wired queues d) f events

-- the short witness of two events is a run that has the second as its last event, and not the first
abbrev pub ShortWitnessesShow : Type 0
ShortWitnessesShow =
    (queues : Queues) (d : Drawing) → IsAccepted d → (e f : ℕ) → f < length d.events
    → (ComesFirst (wired queues d) e f → ⊥) → (events : List ℕ) → IsShortWitness (wired queues d) e f events
    → ShowsWithout (wired queues d) e f events

-- where the past of f all comes, the short witness has exactly that, and no run that has f is
-- shorter
abbrev pub NeededRunsAreLeast : Type 0
NeededRunsAreLeast =
    (queues : Queues) (d : Drawing) → IsAccepted d → (f : ℕ) (events : List ℕ)
    → IsNeededRun (wired queues d) f events → IsLeastRun (wired queues d) f events

-- two events have a short witness
abbrev pub AShortWitnessExists : Type 0
AShortWitnessExists =
    (queues : Queues) (d : Drawing) → IsAccepted d → (e f : ℕ) → e < length d.events → f < length d.events
    → (events : List ℕ) × IsShortWitness (wired queues d) e f events

-- and no other one
abbrev pub ShortWitnessesAreUnique : Type 0
ShortWitnessesAreUnique =
    (queues : Queues) (d : Drawing) (e f : ℕ) (xs ys : List ℕ)
    → IsShortWitness (wired queues d) e f xs → IsShortWitness (wired queues d) e f ys → xs ≡ ys

-- the beginning of a short witness is a run
abbrev pub ShortStepsAreARun : Type 0
ShortStepsAreARun =
    (queues : Queues) (d : Drawing) (f : ℕ) (past : List ℕ)
    → Steps (IsShortNext (wired queues d) f) [] past → Run (wired queues d) past

-- Laws of the runs of an accepted chart, under each architecture.
use Rattle.std.specs.Prelude.{◌≡◌, ◌≢◌, ℕ, ◌<◌, ◌⊎◌, ◌↔◌, List, [], ◌∷◌, ◌++◌, length, IsTrue}
use Rattle.msc_chart.specs.declared.queue.Queues.{Queues}
use Rattle.msc_chart.specs.Lists.{occurs, until, Steps}
use Rattle.msc_chart.specs.Charts.{before}
use Rattle.msc_chart.specs.Drawings.{Drawing, IsAccepted}
use Rattle.msc_chart.specs.Orders.{WiredChart, wired, Enforced, IsRace}
use Rattle.msc_chart.specs.Runs.{Run, MayCome, IsWhole, KeepsDrawnOrder, Reverses}
use Rattle.msc_chart.specs.Witness.{IsFree, MayComeFree, SomeFreeLeft, IsWitnessNext, IsWitness}

-- what is enforced before an event of a run occurs in it earlier
abbrev pub EveryRunKeepsTheEnforcedOrder : Type 0
EveryRunKeepsTheEnforcedOrder =
    (queues : Queues) (d : Drawing) → IsAccepted d → (events : List ℕ) → Run (wired queues d) events
    → (e f : ℕ) → Enforced (wired queues d) e f → IsTrue (occurs events f)
    → IsTrue (occurs (until events f) e)

-- no run reverses two events that are enforced in an order
abbrev pub WhatIsEnforcedIsNeverReversed : Type 0
WhatIsEnforcedIsNeverReversed =
    (queues : Queues) (d : Drawing) → IsAccepted d → (events : List ℕ) → Run (wired queues d) events
    → (e f : ℕ) → Enforced (wired queues d) e f → Reverses events e f → ⊥

-- a run is whole, or some event may come next
abbrev pub NoRunIsStuck : Type 0
NoRunIsStuck =
    (queues : Queues) (d : Drawing) → IsAccepted d → (events : List ℕ) → Run (wired queues d) events
    → IsWhole (wired queues d) events ⊎ ((e : ℕ) × MayCome (wired queues d) events e)

-- what may come next makes a longer run
abbrev pub WhatMayComeMakesALongerRun : Type 0
WhatMayComeMakesALongerRun =
    (queues : Queues) (d : Drawing) (events : List ℕ) (e : ℕ)
    → Run (wired queues d) events → MayCome (wired queues d) events e
    → Run (wired queues d) (events ++ e ∷ [])

-- each run is the beginning of a whole one
abbrev pub EveryRunGoesOnToAWholeOne : Type 0
EveryRunGoesOnToAWholeOne =
    (queues : Queues) (d : Drawing) → IsAccepted d → (events : List ℕ) → Run (wired queues d) events
    → (rest : List ℕ) × Run (wired queues d) (events ++ rest)
    × IsWhole (wired queues d) (events ++ rest)

-- no event is enforced before itself
abbrev pub TheEnforcedOrderHasNoCycle : Type 0
TheEnforcedOrderHasNoCycle =
    (queues : Queues) (d : Drawing) → IsAccepted d → (e : ℕ) → Enforced (wired queues d) e e → ⊥

-- for two different events that are not enforced in an order some whole run has the second without
-- the first before it
abbrev pub WhatIsNotEnforcedIsReversed : Type 0
WhatIsNotEnforcedIsReversed =
    (queues : Queues) (d : Drawing) → IsAccepted d
    → (e f : ℕ) → e < length d.events → f < length d.events → e ≢ f
    → (Enforced (wired queues d) e f → ⊥)
    → (events : List ℕ) × Run (wired queues d) events × IsWhole (wired queues d) events
    × Reverses events e f

-- two different events are enforced in an order exactly where no run reverses them
abbrev pub TheEnforcedOrderIsExact : Type 0
TheEnforcedOrderIsExact =
    (queues : Queues) (d : Drawing) → IsAccepted d
    → (e f : ℕ) → e < length d.events → f < length d.events → e ≢ f
    → Enforced (wired queues d) e f
    ↔ ((events : List ℕ) → Run (wired queues d) events → Reverses events e f → ⊥)

-- a race is a pair that is drawn in an order and that some run reverses
abbrev pub RacesAreWhatRunsReverse : Type 0
RacesAreWhatRunsReverse =
    (queues : Queues) (d : Drawing) → IsAccepted d → (e f : ℕ)
    → IsRace (wired queues d) e f
    ↔ (IsTrue (before d.events e f)
    × ((events : List ℕ) × Run (wired queues d) events × Reverses events e f))

-- no pair is a race
abbrev pub HasNoRace : WiredChart → Type 0
HasNoRace chart = (e f : ℕ) → IsRace chart e f → ⊥

-- every run keeps the drawn order exactly where there is no race
abbrev pub RunsKeepTheDrawnOrder : Type 0
RunsKeepTheDrawnOrder =
    (queues : Queues) (d : Drawing) → IsAccepted d
    → HasNoRace (wired queues d)
    ↔ ((events : List ℕ) → Run (wired queues d) events → KeepsDrawnOrder (wired queues d) events)

-- each event has a witness
abbrev pub AWitnessExists : Type 0
AWitnessExists =
    (queues : Queues) (d : Drawing) → IsAccepted d → (e : ℕ) → e < length d.events
    → (events : List ℕ) × IsWitness (wired queues d) e events

-- and no other one
abbrev pub WitnessesAreUnique : Type 0
WitnessesAreUnique =
    (queues : Queues) (d : Drawing) (e : ℕ) (xs ys : List ℕ)
    → IsWitness (wired queues d) e xs → IsWitness (wired queues d) e ys → xs ≡ ys

-- a witness is a whole run
abbrev pub WitnessesAreWhole : Type 0
WitnessesAreWhole =
    (queues : Queues) (d : Drawing) (e : ℕ) (events : List ℕ)
    → IsWitness (wired queues d) e events
    → Run (wired queues d) events × IsWhole (wired queues d) events

-- each other event that is not enforced after e occurs in the witness of e, and before e
abbrev pub WitnessesReverse : Type 0
WitnessesReverse =
    (queues : Queues) (d : Drawing) (e : ℕ) (events : List ℕ)
    → IsWitness (wired queues d) e events
    → (f : ℕ) → IsFree (wired queues d) e f
    → Reverses events e f × IsTrue (occurs (until events e) f)

-- so the witness of e reverses each race of e
abbrev pub WitnessesReverseRaces : Type 0
WitnessesReverseRaces =
    (queues : Queues) (d : Drawing) (e : ℕ) (events : List ℕ)
    → IsWitness (wired queues d) e events
    → (f : ℕ) → IsRace (wired queues d) e f → Reverses events e f

-- the beginning of a witness is a run
abbrev pub WitnessStepsAreARun : Type 0
WitnessStepsAreARun =
    (queues : Queues) (d : Drawing) (e : ℕ) (past : List ℕ)
    → Steps (IsWitnessNext (wired queues d) e) [] past → Run (wired queues d) past

-- while a free event is left, the beginning of a witness goes on to a free event that does not
-- wait
abbrev pub WitnessesGoOn : Type 0
WitnessesGoOn =
    (queues : Queues) (d : Drawing) → IsAccepted d → (e : ℕ) → e < length d.events
    → (past : List ℕ) → Steps (IsWitnessNext (wired queues d) e) [] past
    → SomeFreeLeft (wired queues d) e past → (x : ℕ) × MayComeFree (wired queues d) e past x

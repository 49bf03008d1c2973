-- Laws of the ready runs of an accepted chart, under each architecture and with any lines ready.
use Rattle.std.specs.Prelude.{◌≡◌, ℕ, Bool, List, ◌++◌, IsTrue, ◌↔◌}
use Rattle.msc_chart.specs.declared.queue.Queues.{Queues}
use Rattle.msc_chart.specs.Lists.{occurs, until}
use Rattle.msc_chart.specs.Charts.{before, is_output, partner, Visual}
use Rattle.msc_chart.specs.Drawings.{Drawing, IsAccepted}
use Rattle.msc_chart.specs.Orders.{WiredChart, wired}
use Rattle.msc_chart.specs.Precedence.{all_ready}
use Rattle.msc_chart.specs.Runs.{Run, IsWhole, KeepsDrawnOrder, Reverses}
use Rattle.msc_race.specs.Laws.{HasNoRace}
use Rattle.msc_ready.specs.Readiness.{ReadyRun, KeepsReadyLines, HasStuck, ReadyOrder}
use Rattle.msc_ready.specs.Running.{AreBlockedPairRuns, IsBlockedPairRun}
use Rattle.msc_ready.specs.BlockedPairs.{AreLeft, IsBlockedPair, IsFirstBlockedPair, HasNoBlockedPair, IsRaceLeft}
use Rattle.msc_ready.specs.Finishing.{MayFinish, HasNoWholeRing}

-- a ready run is a run in which ready lines keep the drawn order
abbrev pub ReadyRunsKeepReadyLines : Type 0
ReadyRunsKeepReadyLines =
    (queues : Queues) (d : Drawing) (ready : ℕ → Bool) (events : List ℕ)
    → ReadyRun (wired queues d) ready events
    ↔ (Run (wired queues d) events × KeepsReadyLines (wired queues d) ready events)

-- with all instances ready it is a run that keeps the drawn order
abbrev pub AllReadyRunsKeepTheDrawnOrder : Type 0
AllReadyRunsKeepTheDrawnOrder =
    (queues : Queues) (d : Drawing) (events : List ℕ)
    → ReadyRun (wired queues d) all_ready events
    ↔ (Run (wired queues d) events × KeepsDrawnOrder (wired queues d) events)

-- what stands before an event of a ready run in the ready order occurs in it earlier
abbrev pub ReadyRunsKeepTheReadyOrder : Type 0
ReadyRunsKeepTheReadyOrder =
    (queues : Queues) (d : Drawing) → IsAccepted d → (ready : ℕ → Bool) (events : List ℕ)
    → ReadyRun (wired queues d) ready events
    → (x y : ℕ) → ReadyOrder (wired queues d) ready x y → IsTrue (occurs events y)
    → IsTrue (occurs (until events y) x)

-- no event stands before itself in the ready order
abbrev pub TheReadyOrderHasNoCycle : Type 0
TheReadyOrderHasNoCycle =
    (queues : Queues) (d : Drawing) → IsAccepted d → (ready : ℕ → Bool) (e : ℕ)
    → ReadyOrder (wired queues d) ready e e → ⊥

-- the run goes on to a whole one
abbrev pub GoesOnReady : WiredChart → (ℕ → Bool) → List ℕ → Type 0
GoesOnReady chart ready events =
    (rest : List ℕ) × ReadyRun chart ready (events ++ rest) × IsWhole chart (events ++ rest)

-- every ready run can go on to a whole one exactly where there is no blocked pair
abbrev pub NeverSticks : Type 0
NeverSticks =
    (queues : Queues) (d : Drawing) → IsAccepted d → (ready : ℕ → Bool)
    → HasNoBlockedPair (wired queues d) ready
    ↔ ((events : List ℕ) → ReadyRun (wired queues d) ready events
    → GoesOnReady (wired queues d) ready events)

-- a ready run with the outputs of a blocked pair in the other order goes on to no whole one
abbrev pub ABlockedPairIsFinal : Type 0
ABlockedPairIsFinal =
    (queues : Queues) (d : Drawing) → IsAccepted d → (ready : ℕ → Bool) (e f : ℕ)
    → IsBlockedPair (wired queues d) ready e f
    → (events : List ℕ) → ReadyRun (wired queues d) ready events
    → Reverses events (partner d.events e) (partner d.events f)
    → GoesOnReady (wired queues d) ready events → ⊥

-- where there is a blocked pair, some blocked pair is first
abbrev pub SomeBlockedPairIsFirst : Type 0
SomeBlockedPairIsFirst =
    (queues : Queues) (d : Drawing) → IsAccepted d → (ready : ℕ → Bool) (e f : ℕ)
    → IsBlockedPair (wired queues d) ready e f
    → (g : ℕ) × (h : ℕ) × IsFirstBlockedPair (wired queues d) ready g h

-- for each first blocked pair some ready run has the second output and not, before it, the first,
-- and the system has stuck after it
abbrev pub EachFirstBlockedPairIsMet : Type 0
EachFirstBlockedPairIsMet =
    (queues : Queues) (d : Drawing) → IsAccepted d → (ready : ℕ → Bool) (e f : ℕ)
    → IsFirstBlockedPair (wired queues d) ready e f
    → (events : List ℕ) × HasStuck (wired queues d) ready events
    × Reverses events (partner d.events e) (partner d.events f)

-- each first blocked pair has its run
abbrev pub EachFirstBlockedPairHasARun : Type 0
EachFirstBlockedPairHasARun =
    (queues : Queues) (d : Drawing) → IsAccepted d → (ready : ℕ → Bool)
    → (runs : ℕ → List ℕ) × AreBlockedPairRuns (wired queues d) ready runs

-- and no other one: it is that of each first blocked pair with the same second event
abbrev pub BlockedPairRunsAreUnique : Type 0
BlockedPairRunsAreUnique =
    (queues : Queues) (d : Drawing) (ready : ℕ → Bool) (e g f : ℕ) (xs ys : List ℕ)
    → IsBlockedPairRun (wired queues d) ready e f xs → IsBlockedPairRun (wired queues d) ready g f ys → xs ≡ ys

-- there is a test for the races that are left
abbrev pub RacesLeftAreTold : Type 0
RacesLeftAreTold =
    (queues : Queues) (d : Drawing) → IsAccepted d → (ready : ℕ → Bool)
    → (left : ℕ → ℕ → Bool) × AreLeft (wired queues d) ready left

-- a chart without races has no blocked pair, whichever lines are ready
abbrev pub APassNeverSticks : Type 0
APassNeverSticks =
    (queues : Queues) (d : Drawing) → IsAccepted d → HasNoRace (wired queues d)
    → (ready : ℕ → Bool) → HasNoBlockedPair (wired queues d) ready

-- some ready run is whole exactly where no ring leads along what has to come before what
abbrev pub SomeRunIsWhole : Type 0
SomeRunIsWhole =
    (queues : Queues) (d : Drawing) → IsAccepted d → (ready : ℕ → Bool)
    → MayFinish (wired queues d) ready ↔ HasNoWholeRing (wired queues d) ready

-- with more instances ready each blocked pair stays a blocked pair: so more ready instances end no
-- sticking
abbrev pub MoreReadyEndNoSticking : Type 0
MoreReadyEndNoSticking =
    (queues : Queues) (d : Drawing) → IsAccepted d → (ready more : ℕ → Bool)
    → ((i : ℕ) → IsTrue (ready i) → IsTrue (more i)) → (e f : ℕ)
    → IsBlockedPair (wired queues d) ready e f → IsBlockedPair (wired queues d) more e f

-- between outputs the ready order is the visual order, whichever instances are ready
abbrev pub OutputsAreInVisualOrder : Type 0
OutputsAreInVisualOrder =
    (queues : Queues) (d : Drawing) → IsAccepted d → (ready : ℕ → Bool) (s t : ℕ)
    → IsTrue (is_output d.events s) → IsTrue (is_output d.events t)
    → ReadyOrder (wired queues d) ready s t ↔ Visual d.events s t

-- Where there is no blocked pair, the races that are left are exactly the drawn pairs that some
-- whole ready run reverses.
abbrev pub RacesLeftAreReversed : Type 0
RacesLeftAreReversed =
    (queues : Queues) (d : Drawing) → IsAccepted d → (ready : ℕ → Bool)
    → HasNoBlockedPair (wired queues d) ready → (e f : ℕ)
    → IsRaceLeft (wired queues d) ready e f
    ↔ (IsTrue (before d.events e f)
    × ((events : List ℕ) × ReadyRun (wired queues d) ready events × IsWhole (wired queues d) events
    × Reverses events e f))

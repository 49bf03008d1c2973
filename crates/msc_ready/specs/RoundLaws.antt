-- Laws of several rounds of a chart, under each architecture and with any lines ready. E in round r
-- is the event that in_round gives; rounds are numbered from 0.
use Rattle.std.specs.Prelude.{ℕ, ◌+◌, ◌<◌, ◌≤◌, ◌↔◌, Bool, List}
use Rattle.msc_chart.specs.declared.queue.Queues.{Queues}
use Rattle.msc_chart.specs.Drawings.{Drawing, IsAccepted}
use Rattle.msc_chart.specs.Orders.{WiredChart, wired}
use Rattle.msc_chart.specs.RoundLaws.{in_round, IsIn}
use Rattle.msc_chart.specs.Rounds.{repeated, two_rounds}
use Rattle.msc_ready.specs.Finishing.{HasNoWholeRing, MayFinish}
use Rattle.msc_ready.specs.Laws.{GoesOnReady}
use Rattle.msc_ready.specs.Readiness.{ReadyOrder, ReadyRun}
use Rattle.msc_ready.specs.Rounds.{HasNoneBetween}
use Rattle.msc_ready.specs.BlockedPairs.{HasNoBlockedPair, IsBlockedPair}

-- no event of a later round stands before one of an earlier in the ready order
abbrev pub NoReadyWayBack : Type 0
NoReadyWayBack =
    (queues : Queues) (n : ℕ) (d : Drawing) (ready : ℕ → Bool) (e r f q : ℕ) → IsAccepted d → IsIn n d e r → IsIn n d f q
    → ReadyOrder (wired queues (repeated n d)) ready (in_round n d e r) (in_round n d f q) → r ≤ q

-- within a round the ready order is that of the chart alone
abbrev pub ReadyOrderWithinARound : Type 0
ReadyOrderWithinARound =
    (queues : Queues) (n : ℕ) (d : Drawing) (ready : ℕ → Bool) (e f r : ℕ) → IsAccepted d → IsIn n d e r → IsIn n d f r
    → ReadyOrder (wired queues (repeated n d)) ready (in_round n d e r) (in_round n d f r)
    ↔ ReadyOrder (wired queues d) ready e f

-- over some rounds it is that of as many rounds alone, wherever they begin
abbrev pub ReadyOrderOfSomeRounds : Type 0
ReadyOrderOfSomeRounds =
    (queues : Queues) (n m s : ℕ) (d : Drawing) (ready : ℕ → Bool) (e r f q : ℕ)
    → IsAccepted d → s + m ≤ n → IsIn m d e r → IsIn m d f q
    → ReadyOrder (wired queues (repeated n d)) ready (in_round n d e (s + r)) (in_round n d f (s + q))
    ↔ ReadyOrder (wired queues (repeated m d)) ready (in_round m d e r) (in_round m d f q)

-- within a round the blocked pairs are those of the chart alone
abbrev pub BlockedPairsWithinARound : Type 0
BlockedPairsWithinARound =
    (queues : Queues) (n : ℕ) (d : Drawing) (ready : ℕ → Bool) (e f r : ℕ) → IsAccepted d → IsIn n d e r → IsIn n d f r
    → IsBlockedPair (wired queues (repeated n d)) ready (in_round n d e r) (in_round n d f r)
    ↔ IsBlockedPair (wired queues d) ready e f

-- two rounds never stick exactly where one does not, and no blocked pair leads from the first to
-- the second
abbrev pub BlockedPairsOfTwoRounds : Type 0
BlockedPairsOfTwoRounds =
    (queues : Queues) (d : Drawing) → IsAccepted d → (ready : ℕ → Bool)
    → HasNoBlockedPair (wired queues (two_rounds d)) ready
    ↔ (HasNoBlockedPair (wired queues d) ready × HasNoneBetween (wired queues (two_rounds d)) ready d)

-- n rounds never stick for every n exactly where two do not
abbrev pub RoundsStickByTwo : Type 0
RoundsStickByTwo =
    (queues : Queues) (d : Drawing) → IsAccepted d → (ready : ℕ → Bool)
    → ((n : ℕ) → HasNoBlockedPair (wired queues (repeated n d)) ready) ↔ HasNoBlockedPair (wired queues (two_rounds d)) ready

-- and so does each number of rounds from two on
abbrev pub ManyRoundsStickAsTwo : Type 0
ManyRoundsStickAsTwo =
    (queues : Queues) (d : Drawing) → IsAccepted d → (ready : ℕ → Bool) (n : ℕ) → 2 ≤ n
    → HasNoBlockedPair (wired queues (repeated n d)) ready ↔ HasNoBlockedPair (wired queues (two_rounds d)) ready

-- each ready run goes on to a whole one
abbrev pub AllGoOn : WiredChart → (ℕ → Bool) → Type 0
AllGoOn chart ready = (events : List ℕ) → ReadyRun chart ready events → GoesOnReady chart ready events

-- so every ready run of n rounds goes on to a whole one, for every n, exactly where every one of
-- two does
abbrev pub RoundsGoOnByTwo : Type 0
RoundsGoOnByTwo =
    (queues : Queues) (d : Drawing) → IsAccepted d → (ready : ℕ → Bool)
    → ((n : ℕ) → AllGoOn (wired queues (repeated n d)) ready) ↔ AllGoOn (wired queues (two_rounds d)) ready

-- a ring leads along what has to come before what in several rounds exactly where one does in one
abbrev pub RoundsRingByOne : Type 0
RoundsRingByOne =
    (queues : Queues) (d : Drawing) → IsAccepted d → (ready : ℕ → Bool) (n : ℕ) → 0 < n
    → HasNoWholeRing (wired queues (repeated n d)) ready ↔ HasNoWholeRing (wired queues d) ready

-- so some ready run of several rounds is whole exactly where one of one is
abbrev pub RoundsFinishByOne : Type 0
RoundsFinishByOne =
    (queues : Queues) (d : Drawing) → IsAccepted d → (ready : ℕ → Bool) (n : ℕ) → 0 < n
    → MayFinish (wired queues (repeated n d)) ready ↔ MayFinish (wired queues d) ready

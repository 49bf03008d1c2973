-- Laws of several rounds of a chart, under each architecture. E in round r is the event that
-- number_of gives; rounds are numbered from 0.
use Rattle.std.specs.Prelude.{◌≡◌, ℕ, ◌+◌, ◌*◌, ◌<◌, ◌≤◌, ◌⊎◌, ◌↔◌, false, length, IsTrue}
use Rattle.msc_chart.specs.declared.queue.Queues.{Queues}
use Rattle.msc_chart.specs.Charts.{line, kind, partner, message, before, is_local, Visual}
use Rattle.msc_chart.specs.Drawings.{Drawing, IsAccepted, label_of, message_at}
use Rattle.msc_chart.specs.Orders.{WiredChart, wired, Enforced, IsRace}
use Rattle.msc_chart.specs.Rounds.{number_of, event_of, round_of, message_in, repeated, two_rounds}

-- event e in round r of n rounds
abbrev pub in_round : ℕ → Drawing → ℕ → ℕ → ℕ
in_round n d e r = number_of n d.events e r

-- an event of the chart, and one of n rounds
abbrev pub IsIn : ℕ → Drawing → ℕ → ℕ → Type 0
IsIn n d e r = (e < length d.events) × (r < n)

-- each event of n rounds is one event of the chart in one round
abbrev pub EachEventIsInOneRound : Type 0
EachEventIsInOneRound =
    (n : ℕ) (d : Drawing) (k : ℕ) → IsAccepted d → k < length (repeated n d).events
    → IsIn n d (event_of n d.events k) (round_of n d.events k)
    × (in_round n d (event_of n d.events k) (round_of n d.events k) ≡ k)

-- and each event of the chart in each round is one of n rounds
abbrev pub EachEventIsInEachRound : Type 0
EachEventIsInEachRound =
    (n : ℕ) (d : Drawing) (e r : ℕ) → IsAccepted d → IsIn n d e r
    → (in_round n d e r < length (repeated n d).events)
    × (event_of n d.events (in_round n d e r) ≡ e) × (round_of n d.events (in_round n d e r) ≡ r)

-- Lines are done round by round: of two events the first is drawn before the second where they are
-- on one line, the first in an earlier round, or in the same one and drawn before it in the chart.
abbrev pub LinesAreDoneRoundByRound : Type 0
LinesAreDoneRoundByRound =
    (n : ℕ) (d : Drawing) (e r f q : ℕ) → IsAccepted d → IsIn n d e r → IsIn n d f q
    → IsTrue (before (repeated n d).events (in_round n d e r) (in_round n d f q))
    ↔ ((line d.events e ≡ line d.events f) × ((r < q) ⊎ ((r ≡ q) × IsTrue (before d.events e f))))

-- an event is on its line and of its kind in each round, and its partner is its partner there
abbrev pub EventsStayAsTheyAre : Type 0
EventsStayAsTheyAre =
    (n : ℕ) (d : Drawing) (e r : ℕ) → IsAccepted d → IsIn n d e r
    → (line (repeated n d).events (in_round n d e r) ≡ line d.events e)
    × (kind (repeated n d).events (in_round n d e r) ≡ kind d.events e)
    × (partner (repeated n d).events (in_round n d e r) ≡ in_round n d (partner d.events e) r)

-- the messages of different rounds are different
abbrev pub MessagesAreOfOneRound : Type 0
MessagesAreOfOneRound =
    (n : ℕ) (d : Drawing) (e r : ℕ) → IsAccepted d → IsIn n d e r → is_local d.events e ≡ false
    → message (repeated n d).events (in_round n d e r) ≡ r * length d.messages + message d.events e

-- an action has its text in each round
abbrev pub TextsStayAsTheyAre : Type 0
TextsStayAsTheyAre =
    (n : ℕ) (d : Drawing) (e r : ℕ) → IsAccepted d → IsIn n d e r → IsTrue (is_local d.events e)
    → label_of (repeated n d) (in_round n d e r) ≡ label_of d e

-- a message has its name and its message instance name in each round, and its output is its output
-- there
abbrev pub NamesStayAsTheyAre : Type 0
NamesStayAsTheyAre =
    (n : ℕ) (d : Drawing) (m r : ℕ) → IsAccepted d → m < length d.messages → r < n
    → message_at (repeated n d) (r * length d.messages + m) ≡ message_in n d.events (message_at d m) r

-- no event of a later round is enforced before one of an earlier
abbrev pub NoWayBack : Type 0
NoWayBack =
    (queues : Queues) (n : ℕ) (d : Drawing) (e r f q : ℕ) → IsAccepted d → IsIn n d e r → IsIn n d f q
    → Enforced (wired queues (repeated n d)) (in_round n d e r) (in_round n d f q) → r ≤ q

-- order within a round is that of the chart alone
abbrev pub OrderWithinARound : Type 0
OrderWithinARound =
    (queues : Queues) (n : ℕ) (d : Drawing) (e f r : ℕ) → IsAccepted d → IsIn n d e r → IsIn n d f r
    → Enforced (wired queues (repeated n d)) (in_round n d e r) (in_round n d f r)
    ↔ Enforced (wired queues d) e f

-- order over some rounds is that of as many rounds alone, wherever they begin
abbrev pub OrderOfSomeRounds : Type 0
OrderOfSomeRounds =
    (queues : Queues) (n m s : ℕ) (d : Drawing) (e r f q : ℕ) → IsAccepted d → s + m ≤ n → IsIn m d e r → IsIn m d f q
    → Enforced (wired queues (repeated n d)) (in_round n d e (s + r)) (in_round n d f (s + q))
    ↔ Enforced (wired queues (repeated m d)) (in_round m d e r) (in_round m d f q)

-- in the visual order too nothing of a later round stands before one of an earlier
abbrev pub NoVisualWayBack : Type 0
NoVisualWayBack =
    (n : ℕ) (d : Drawing) (e r f q : ℕ) → IsAccepted d → IsIn n d e r → IsIn n d f q
    → Visual (repeated n d).events (in_round n d e r) (in_round n d f q) → r ≤ q

-- it is that of the chart alone within a round
abbrev pub VisualOrderWithinARound : Type 0
VisualOrderWithinARound =
    (n : ℕ) (d : Drawing) (e f r : ℕ) → IsAccepted d → IsIn n d e r → IsIn n d f r
    → Visual (repeated n d).events (in_round n d e r) (in_round n d f r) ↔ Visual d.events e f

-- and over some rounds that of as many rounds alone
abbrev pub VisualOrderOfSomeRounds : Type 0
VisualOrderOfSomeRounds =
    (n m s : ℕ) (d : Drawing) (e r f q : ℕ) → IsAccepted d → s + m ≤ n → IsIn m d e r → IsIn m d f q
    → Visual (repeated n d).events (in_round n d e (s + r)) (in_round n d f (s + q))
    ↔ Visual (repeated m d).events (in_round m d e r) (in_round m d f q)

-- no pair is a race
abbrev pub Passes : WiredChart → Type 0
Passes chart = (e f : ℕ) → IsRace chart e f → ⊥

-- n rounds pass for every n exactly where two do
abbrev pub RoundsByTwo : Type 0
RoundsByTwo =
    (queues : Queues) (d : Drawing) → IsAccepted d
    → ((n : ℕ) → Passes (wired queues (repeated n d))) ↔ Passes (wired queues (two_rounds d))

-- and so does each number of rounds from two on
abbrev pub ManyRoundsPassAsTwo : Type 0
ManyRoundsPassAsTwo =
    (queues : Queues) (d : Drawing) → IsAccepted d → (n : ℕ) → 2 ≤ n
    → Passes (wired queues (repeated n d)) ↔ Passes (wired queues (two_rounds d))

-- no race is between an event of the first of two rounds and one of the second
abbrev pub NoneIsBetween : Queues → Drawing → Type 0
NoneIsBetween queues d =
    (e f : ℕ) → e < length d.events → f < length d.events
    → IsRace (wired queues (two_rounds d)) (in_round 2 d e 0) (in_round 2 d f 1) → ⊥

-- two rounds pass exactly where one does and no race is between them
abbrev pub TwoRoundsPass : Type 0
TwoRoundsPass =
    (queues : Queues) (d : Drawing) → IsAccepted d
    → Passes (wired queues (two_rounds d)) ↔ (Passes (wired queues d) × NoneIsBetween queues d)

-- nothing is drawn between x and y
abbrev pub AreNext : WiredChart → ℕ → ℕ → Type 0
AreNext chart x y = (z : ℕ) → IsTrue (before chart.events x z) → IsTrue (before chart.events z y) → ⊥

-- a closest race: nothing is drawn between its events
abbrev pub IsNextRace : WiredChart → ℕ → ℕ → Type 0
IsNextRace chart x y = IsRace chart x y × AreNext chart x y

-- the closest races of n rounds are those of the chart within a round, and those between the first
-- and the second of two rounds, between a round and the next
abbrev pub ClosestRacesByTwo : Type 0
ClosestRacesByTwo =
    (queues : Queues) (n : ℕ) (d : Drawing) (e r f q : ℕ) → IsAccepted d → IsIn n d e r → IsIn n d f q
    → IsNextRace (wired queues (repeated n d)) (in_round n d e r) (in_round n d f q)
    ↔ (((q ≡ r) × IsNextRace (wired queues d) e f)
    ⊎ ((q ≡ r + 1) × IsNextRace (wired queues (two_rounds d)) (in_round 2 d e 0) (in_round 2 d f 1)))

-- event e is of the last segment of its line
abbrev pub IsLast : Drawing → ℕ → Type 0
IsLast d e = (x : ℕ) → IsTrue (before d.events e x) → ⊥

-- event f is of the first segment of its line
abbrev pub IsFirstDrawn : Drawing → ℕ → Type 0
IsFirstDrawn d f = (x : ℕ) → IsTrue (before d.events x f) → ⊥

-- between the first and the second round nothing is drawn between an event of the last segment of a
-- line and one of its first, and between no other two
abbrev pub NextOverTwoRounds : Type 0
NextOverTwoRounds =
    (queues : Queues) (d : Drawing) (e f : ℕ) → IsAccepted d → e < length d.events → f < length d.events → line d.events e ≡ line d.events f
    → AreNext (wired queues (two_rounds d)) (in_round 2 d e 0) (in_round 2 d f 1) ↔ (IsLast d e × IsFirstDrawn d f)

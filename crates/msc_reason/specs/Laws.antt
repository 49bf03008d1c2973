-- Laws of closest races and of what races lack, of accepted charts under each architecture.
use Rattle.std.specs.Prelude.{◌≡◌, ℕ, ◌+◌, ◌⊎◌, ◌↔◌, IsTrue}
use Rattle.msc_chart.specs.declared.queue.Queues.{Queues}
use Rattle.msc_chart.specs.declared.queue.LinkKind.TheVariants.{Single}
use Rattle.msc_chart.specs.declared.queue.Queues.TheVariants.{Uniform}
use Rattle.msc_chart.specs.Charts.{before, partner, is_input}
use Rattle.msc_chart.specs.Drawings.{Drawing, IsAccepted}
use Rattle.msc_chart.specs.Orders.{wired, Enforced, IsRace}
use Rattle.msc_chart.specs.RoundLaws.{in_round, IsIn}
use Rattle.msc_chart.specs.Rounds.{repeated, two_rounds}
use Rattle.msc_race.specs.Laws.{HasNoRace}
use Rattle.msc_reason.specs.declared.cause.RaceKind.{RaceKind}
use Rattle.msc_reason.specs.declared.cause.RaceKind.TheVariants.{Early, Overtaken}
use Rattle.msc_reason.specs.declared.why.Why.{Why}
use Rattle.msc_reason.specs.Chains.{IsWhy}
use Rattle.msc_reason.specs.Closest.{IsClosest, HasNoClosestRace, StandsWithin}
use Rattle.msc_reason.specs.Causes.{IsKindOf, needed}

-- within each race stands a closest race, of the same line
abbrev pub EveryRaceSpansAClosestRace : Type 0
EveryRaceSpansAClosestRace =
    (queues : Queues) (d : Drawing) → IsAccepted d → (e f : ℕ) → IsRace (wired queues d) e f
    → (g : ℕ) × (h : ℕ) × IsClosest (wired queues d) g h × StandsWithin d.events e f g h

-- a chart has no race exactly where it has no closest race
abbrev pub RacesAreToldByTheClosest : Type 0
RacesAreToldByTheClosest =
    (queues : Queues) (d : Drawing) → IsAccepted d
    → HasNoRace (wired queues d) ↔ HasNoClosestRace (wired queues d)

-- The closest races of n rounds are those of the chart within a round, and between a round and the
-- next those between the first and the second of two rounds. Rounds are numbered from 0.
abbrev pub ClosestRacesOfRounds : Type 0
ClosestRacesOfRounds =
    (queues : Queues) (n : ℕ) (d : Drawing) (e r f q : ℕ) → IsAccepted d → IsIn n d e r → IsIn n d f q
    → IsClosest (wired queues (repeated n d)) (in_round n d e r) (in_round n d f q)
    ↔ (((q ≡ r) × IsClosest (wired queues d) e f)
    ⊎ ((q ≡ r + 1) × IsClosest (wired queues (two_rounds d)) (in_round 2 d e 0) (in_round 2 d f 1)))

-- the second event of a race is an input
abbrev pub RacesEndInInputs : Type 0
RacesEndInInputs =
    (queues : Queues) (d : Drawing) → IsAccepted d → (e f : ℕ) → IsRace (wired queues d) e f
    → IsTrue (is_input d.events f)

-- An event is enforced before an input that is drawn after it exactly where what is needed is the
-- output of the input, or is enforced before it. So a race lacks this one pair.
abbrev pub ARaceHasOneCause : Type 0
ARaceHasOneCause =
    (queues : Queues) (d : Drawing) → IsAccepted d → (e f : ℕ)
    → IsTrue (before d.events e f) → IsTrue (is_input d.events f)
    → Enforced (wired queues d) e f
    ↔ ((needed (wired queues d) e f ≡ partner d.events f)
    ⊎ Enforced (wired queues d) (needed (wired queues d) e f) (partner d.events f))

-- each race has a kind, and no other
abbrev pub EachRaceHasOneKind : Type 0
EachRaceHasOneKind =
    (queues : Queues) (d : Drawing) → IsAccepted d → (e f : ℕ) → IsRace (wired queues d) e f
    → (kind : RaceKind) × IsKindOf (wired queues d) e f kind
    × ((other : RaceKind) → IsKindOf (wired queues d) e f other → other ≡ kind)

-- where each message has a queue of its own, a race is early or of two queues
abbrev pub SingleRacesAreOfTwoKinds : Type 0
SingleRacesAreOfTwoKinds =
    (d : Drawing) → IsAccepted d → (e f : ℕ) → IsRace (wired (Uniform Single) d) e f
    → (kind : RaceKind) → IsKindOf (wired (Uniform Single) d) e f kind → (kind ≡ Early) ⊎ (kind ≡ RaceKind.Queues)

-- an overtaken race is reversed always: its second event is enforced before its first
abbrev pub WhatIsOvertakenIsAlwaysReversed : Type 0
WhatIsOvertakenIsAlwaysReversed =
    (queues : Queues) (d : Drawing) → IsAccepted d → (e f : ℕ) → IsRace (wired queues d) e f
    → IsKindOf (wired queues d) e f Overtaken → Enforced (wired queues d) f e

-- what shows that an event is enforced before another is right
abbrev pub AWhyIsEnough : Type 0
AWhyIsEnough =
    (queues : Queues) (d : Drawing) → IsAccepted d → (e f : ℕ) → (why : Why)
    → IsWhy (wired queues d) e f why → Enforced (wired queues d) e f

-- and there is one wherever it is enforced: the rule of queues is needed once at most
abbrev pub AWhyExists : Type 0
AWhyExists =
    (queues : Queues) (d : Drawing) → IsAccepted d → (e f : ℕ) → Enforced (wired queues d) e f
    → (why : Why) × IsWhy (wired queues d) e f why

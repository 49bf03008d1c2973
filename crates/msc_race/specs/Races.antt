-- Races as lists of pairs of events, and verdicts.
use Rattle.std.specs.Prelude.{◌≡◌, ◌≢◌, ℕ, ◌<◌, ◌↔◌, ◌⊎◌, Bool, ◌&&◌, not, List, [], ◌∷◌, length, IsTrue}
use Rattle.msc_chart.specs.declared.queue.Queues.{Queues}
use Rattle.msc_chart.specs.declared.event.ChartEvent.{ChartEvent}
use Rattle.msc_chart.specs.Charts.{before}
use Rattle.msc_chart.specs.Drawings.{Drawing, IsAccepted}
use Rattle.msc_chart.specs.Lists.{pairs_of, Occurs, StandsAt}
use Rattle.msc_chart.specs.Orders.{WiredChart, wired, IsEnforcedOrder, IsRace}
use Rattle.msc_chart.specs.Runs.{Run, KeepsDrawnOrder, Reverses}
use Rattle.msc_order.specs.Tables.{Table, orders}
use Rattle.msc_race.specs.Laws.{HasNoRace}
use Rattle.msc_race.specs.declared.verdict.Verdict.{Verdict}
use Rattle.msc_race.specs.declared.verdict.Verdict.TheVariants.{Pass, Races}

-- the pair is drawn in an order that the table does not hold
unfoldable pub is_raced : List ChartEvent → Table → ℕ → ℕ → Bool
is_raced events order e f = before events e f && not (orders order e f)

-- all pairs of events that are drawn in an order which the table does not hold, ascending
abbrev pub all_races : List ChartEvent → Table → List (ℕ × ℕ)
all_races events order = pairs_of (is_raced events order) (length events)

-- a pair of the list is a race, and no other
abbrev pub AreRaces : WiredChart → List (ℕ × ℕ) → Type 0
AreRaces chart pairs = (e f : ℕ) → IsRace chart e f ↔ Occurs pairs (e, f)

-- p comes before q: its first event is less, or it is the same and its second event is less
abbrev pub IsPairBefore : ℕ × ℕ → ℕ × ℕ → Type 0
IsPairBefore p q = (p.0 < q.0) ⊎ ((p.0 ≡ q.0) × (p.1 < q.1))

-- each pair of the list comes before all that stand later, so that none stands twice
abbrev pub AreAscending : List (ℕ × ℕ) → Type 0
AreAscending pairs =
    (i j : ℕ) (p q : ℕ × ℕ) → i < j → StandsAt pairs i p → StandsAt pairs j q → IsPairBefore p q

-- the list of all races, ascending, each once: the drawn pairs that the enforced order has not
pub record IsRaceList (chart : WiredChart) (pairs : List (ℕ × ℕ)) : Type 0 where
  pub races : AreRaces chart pairs
  pub ascending : AreAscending pairs
  pub enumerated : (order : Table) × IsEnforcedOrder chart (orders order)
      × (pairs ≡ all_races chart.events order)

-- a verdict passes a chart without races, and otherwise has the list of its races
abbrev pub IsVerdict : WiredChart → Verdict → Type 0
IsVerdict chart Pass = HasNoRace chart
IsVerdict chart (Races pairs) = IsRaceList chart pairs × (pairs ≢ [])

-- some run reverses the drawn pair
abbrev pub IsReversed : WiredChart → ℕ → ℕ → Type 0
IsReversed chart e f = IsTrue (before chart.events e f) × ((events : List ℕ) × Run chart events × Reverses events e f)

-- the list names the drawn pairs that some run reverses and no other, and there is one
pub record NamesReversed (chart : WiredChart) (pairs : List (ℕ × ℕ)) : Type 0 where
  pub reversed : (e f : ℕ) → IsReversed chart e f ↔ Occurs pairs (e, f)
  pub some : pairs ≢ []

-- A verdict passes a chart exactly where every run keeps the drawn order, and otherwise names exactly
-- the drawn pairs that some run reverses.
abbrev pub TellsRuns : WiredChart → Verdict → Type 0
TellsRuns chart Pass = (events : List ℕ) → Run chart events → KeepsDrawnOrder chart events
TellsRuns chart (Races pairs) = NamesReversed chart pairs

-- the verdict with these races: `pass` where there are none
abbrev pub verdict_of : List (ℕ × ℕ) → Verdict
verdict_of [] = Pass
verdict_of (p ∷ pairs) = Races (p ∷ pairs)

-- the verdict by an order: its races are the drawn pairs that the order does not hold
abbrev pub verdict_by : List ChartEvent → Table → Verdict
verdict_by events order = verdict_of (all_races events order)

-- the enforced order gives a verdict that is one on the chart, and that tells what its runs reverse
abbrev pub EnforcedOrdersTellVerdicts : Type 0
EnforcedOrdersTellVerdicts =
    (queues : Queues) (d : Drawing) → IsAccepted d
    → (order : Table) → IsEnforcedOrder (wired queues d) (orders order)
    → IsVerdict (wired queues d) (verdict_by d.events order)
    × TellsRuns (wired queues d) (verdict_by d.events order)

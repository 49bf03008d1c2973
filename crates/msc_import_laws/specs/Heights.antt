-- Charts that are drawn from top to bottom: each event has a height, which grows down the drawing.
use Rattle.std.specs.Prelude.{◌≡◌, ℕ, ◌+◌, ◌<◌, List, [], length, get_or, IsTrue}
use Rattle.msc_chart.specs.declared.event.ChartEvent.{ChartEvent}
use Rattle.msc_chart.specs.Lists.{occurs, Steps}
use Rattle.msc_chart.specs.Charts.{partner, is_input, is_output, line, before, Visual}
use Rattle.msc_chart.specs.Orders.{WiredChart, Enforced, IsWired, queue}
use Rattle.msc_chart.specs.Runs.{Run, IsWhole, KeepsDrawnOrder}

-- the height of event e
abbrev pub height : List ℕ → ℕ → ℕ
height heights e = get_or heights e 0

-- The events stand at these heights, one for each: no two at one, what is drawn before another above it, and
-- each input two below its output. Where one more output stands between them, its input is on another line.
pub record AreDrawnAt (heights : List ℕ) (events : List ChartEvent) : Type 0 where
  pub each : length heights ≡ length events
  pub apart : (e f : ℕ) → e < length events → f < length events → height heights e ≡ height heights f → e ≡ f
  pub falls : (e f : ℕ) → IsTrue (before events e f) → height heights e < height heights f
  pub sent : (s : ℕ) → IsTrue (is_output events s) → height heights (partner events s) ≡ height heights s + 2
  pub crossing : (s t : ℕ) → IsTrue (is_output events s) → IsTrue (is_output events t) → height heights t ≡ height heights s + 1 → line events (partner events s) ≡ line events (partner events t) → ⊥

-- an event that is drawn below all of these
pub record IsBelow (heights : List ℕ) (events : List ChartEvent) (past : List ℕ) (e : ℕ) : Type 0 where
  pub event : e < length events
  pub below : (x : ℕ) → IsTrue (occurs past x) → height heights x < height heights e

-- all events from top to bottom
pub record IsDownward (heights : List ℕ) (events : List ChartEvent) (order : List ℕ) : Type 0 where
  pub steps : Steps (IsBelow heights events) [] order
  pub whole : (e : ℕ) → e < length events → IsTrue (occurs order e)

-- what precedes an event visibly is drawn above it
abbrev pub VisualGoesDown : Type 0
VisualGoesDown =
    (heights : List ℕ) (events : List ChartEvent) (e f : ℕ) → AreDrawnAt heights events → Visual events e f
    → height heights e < height heights f

-- what is enforced before an event is drawn above it
abbrev pub EnforcedGoesDown : Type 0
EnforcedGoesDown =
    (heights : List ℕ) (chart : WiredChart) (e f : ℕ) → AreDrawnAt heights chart.events → Enforced chart e f
    → height heights e < height heights f

-- a run of all events, which keeps the drawn order
pub record IsWholeRun (chart : WiredChart) (order : List ℕ) : Type 0 where
  pub run : Run chart order
  pub whole : IsWhole chart order
  pub keeps : KeepsDrawnOrder chart order

-- the inputs of a queue are on one line
abbrev pub ShareLines : WiredChart → Type 0
ShareLines chart =
    (r u : ℕ) → IsTrue (is_input chart.events r) → IsTrue (is_input chart.events u) → queue chart r ≡ queue chart u
    → line chart.events r ≡ line chart.events u

-- the events from top to bottom are a whole run
abbrev pub DownwardIsARun : Type 0
DownwardIsARun =
    (heights : List ℕ) (chart : WiredChart) (order : List ℕ) → IsWired chart → ShareLines chart → AreDrawnAt heights chart.events
    → IsDownward heights chart.events order → IsWholeRun chart order

-- all events from top to bottom, and there is no other such list
abbrev pub IsOnlyOrder : List ℕ → List ChartEvent → List ℕ → Type 0
IsOnlyOrder heights events order =
    IsDownward heights events order × ((other : List ℕ) → IsDownward heights events other → other ≡ order)

-- there is one order of all events from top to bottom
abbrev pub OneOrderIsDownward : Type 0
OneOrderIsDownward =
    (heights : List ℕ) (events : List ChartEvent) → AreDrawnAt heights events → (order : List ℕ) × IsOnlyOrder heights events order

-- The runs of a chart under an architecture.
use Rattle.std.specs.Prelude.{◌≡◌, ℕ, ◌<◌, Bool, false, ◌&&◌, not, List, [], length, get_or, filter, IsTrue, nat_eq}
use Rattle.msc_chart.specs.Lists.{occurs, until, IsFirst, Steps}
use Rattle.msc_chart.specs.Charts.{line, partner, is_output, is_input, is_controlled, before}
use Rattle.msc_chart.specs.Orders.{WiredChart, queue}

-- s is an output to the queue whose message is still there after these events
unfoldable pub is_waiting : WiredChart → ℕ → List ℕ → ℕ → Bool
is_waiting chart q past s =
    (is_output chart.events s && nat_eq (queue chart s) q) && not (occurs past (partner chart.events s))

-- what is in a queue after these events: the outputs whose message is still there, in their order
abbrev pub state : WiredChart → ℕ → List ℕ → List ℕ
state chart q past = filter (is_waiting chart q past) past

-- After these events e may come next: it is new, a controlled event has all that is drawn before it
-- behind it, and the message of an input is the first of its queue.
pub record MayCome (chart : WiredChart) (past : List ℕ) (e : ℕ) : Type 0 where
  pub event : e < length chart.events
  pub new : occurs past e ≡ false
  pub controlled : IsTrue (is_controlled chart.events e) → (x : ℕ) → IsTrue (before chart.events x e) → IsTrue (occurs past x)
  pub input : IsTrue (is_input chart.events e) → IsFirst (state chart (queue chart e) past) (partner chart.events e)

-- a run: each event may come after those before it
abbrev pub Run : WiredChart → List ℕ → Type 0
Run chart events = Steps (MayCome chart) [] events

-- all events of the chart are in the list
abbrev pub IsWhole : WiredChart → List ℕ → Type 0
IsWhole chart events = (e : ℕ) → e < length chart.events → IsTrue (occurs events e)

-- each event has all that is drawn before it earlier
abbrev pub KeepsDrawnOrder : WiredChart → List ℕ → Type 0
KeepsDrawnOrder chart events =
    (x y : ℕ) → IsTrue (before chart.events x y) → IsTrue (occurs events y) → IsTrue (occurs (until events y) x)

-- f occurs, and e does not occur earlier
abbrev pub Reverses : List ℕ → ℕ → ℕ → Type 0
Reverses events e f = IsTrue (occurs events f) × (occurs (until events f) e ≡ false)

-- the events of a list that are on a line, in their order
unfoldable pub on_line : WiredChart → List ℕ → ℕ → List ℕ
on_line chart events i = filter (λ e. nat_eq (line chart.events e) i) events

-- there is a log for each of so many instances, and it is what the list has on that instance's line
pub record HasLines (chart : WiredChart) (instances : ℕ) (logs : List (List ℕ)) (events : List ℕ) : Type 0 where
  pub as_many : length logs ≡ instances
  pub each : (i : ℕ) → i < instances → on_line chart events i ≡ get_or logs i []

-- no run has the logs as its lines
abbrev pub HasNoMerge : WiredChart → ℕ → List (List ℕ) → Type 0
HasNoMerge chart instances logs =
    (events : List ℕ) → Run chart events → HasLines chart instances logs events → ⊥

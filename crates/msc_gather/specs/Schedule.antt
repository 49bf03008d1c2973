-- What logs have to satisfy to be the lines of a run, and what comes first in such a run.
use Rattle.std.specs.Prelude.{◌≡◌, ℕ, ◌<◌, Bool, false, ◌&&◌, ◌||◌, List, [], length, get_or, nat_eq, IsTrue}
use Rattle.msc_chart.specs.Orders.{WiredChart, IsWired, queue}
use Rattle.msc_chart.specs.Charts.{line, partner, is_output, is_input, is_controlled, before}
use Rattle.msc_chart.specs.Lists.{occurs, until, Steps, IsOnce}

-- the log of the line of an event
abbrev pub log_of : WiredChart → List (List ℕ) → ℕ → List ℕ
log_of chart logs e = get_or logs (line chart.events e) []

-- the event is in the log of its line
abbrev pub is_logged : WiredChart → List (List ℕ) → ℕ → Bool
is_logged chart logs e = occurs (log_of chart logs e) e

-- Logs of the lines of a chart, one for each instance: each event on its line and once, a
-- controlled event after all that is drawn before it.
pub record KeepLines (chart : WiredChart) (instances : ℕ) (logs : List (List ℕ)) : Type 0 where
  pub as_many : length logs ≡ instances
  pub known : (i e : ℕ) → i < instances → IsTrue (occurs (get_or logs i []) e)
      → (e < length chart.events) × (line chart.events e ≡ i)
  pub once : (i : ℕ) → i < instances → IsOnce (get_or logs i [])
  pub drawn : (s x : ℕ) → s < length chart.events → IsTrue (is_logged chart logs s)
      → IsTrue (is_controlled chart.events s) → IsTrue (before chart.events x s)
      → IsTrue (occurs (until (log_of chart logs s) s) x)

-- Logs of a chart: logs of its lines, an input with its output logged.
pub record AreLogs (chart : WiredChart) (instances : ℕ) (logs : List (List ℕ)) : Type 0 where
  pub lines : KeepLines chart instances logs
  pub sent : (r : ℕ) → r < length chart.events → IsTrue (is_logged chart logs r)
      → IsTrue (is_input chart.events r) → IsTrue (is_logged chart logs (partner chart.events r))

-- in the receiver's log the input of output x stands before that of output y, which may be missing
-- there
abbrev pub is_taken_first : WiredChart → List (List ℕ) → ℕ → ℕ → Bool
is_taken_first chart logs x y =
    occurs (until (log_of chart logs (partner chart.events x)) (partner chart.events y))
    (partner chart.events x)

-- x comes before y from another place than the log of y: it is the output of y; or both are outputs
-- of one queue, and the input of x is taken first
unfoldable pub crosses : WiredChart → List (List ℕ) → ℕ → ℕ → Bool
crosses chart logs x y =
    (is_output chart.events x && nat_eq (partner chart.events x) y)
    || ((is_output chart.events x && is_output chart.events y)
    && (nat_eq (queue chart x) (queue chart y) && is_taken_first chart logs x y))

-- x comes before y: it stands before y in the log of y, or it crosses
unfoldable pub goes_first : WiredChart → List (List ℕ) → ℕ → ℕ → Bool
goes_first chart logs x y = occurs (until (log_of chart logs y) y) x || crosses chart logs x y

-- after these events x may follow: it is logged and new, and all that comes before it is behind it
pub record MayFollow (chart : WiredChart) (logs : List (List ℕ)) (past : List ℕ) (x : ℕ) : Type 0
  where
    pub event : x < length chart.events
    pub logged : IsTrue (is_logged chart logs x)
    pub new : occurs past x ≡ false
    pub behind : (y : ℕ) → IsTrue (goes_first chart logs y x) → IsTrue (occurs past y)

-- all that is logged is in the list
abbrev pub HasAll : WiredChart → List (List ℕ) → List ℕ → Type 0
HasAll chart logs events =
    (e : ℕ) → e < length chart.events → IsTrue (is_logged chart logs e) → IsTrue (occurs events e)

-- the logged events, each once, each after all that comes before it
abbrev pub IsSchedule : WiredChart → List (List ℕ) → List ℕ → Type 0
IsSchedule chart logs events = Steps (MayFollow chart logs) [] events × HasAll chart logs events

-- the least event that may follow these events
pub record FollowsLeast (chart : WiredChart) (logs : List (List ℕ)) (past : List ℕ) (x : ℕ) : Type 0
  where
    pub itself : MayFollow chart logs past x
    pub none_below : (y : ℕ) → y < x → MayFollow chart logs past y → ⊥

-- a logged event is not in the list
abbrev pub SomeMissing : WiredChart → List (List ℕ) → List ℕ → Type 0
SomeMissing chart logs past =
    (e : ℕ) × (e < length chart.events) × IsTrue (is_logged chart logs e) × (occurs past e ≡ false)

-- partners share queues, each event is on the line of an instance, and the inputs of a queue are on
-- one line
pub record IsSeated (chart : WiredChart) (instances : ℕ) : Type 0 where
  pub is_wired : IsWired chart
  pub on_lines : (e : ℕ) → e < length chart.events → line chart.events e < instances
  pub one_receiver : (r u : ℕ) → IsTrue (is_input chart.events r) → IsTrue (is_input chart.events u)
      → queue chart r ≡ queue chart u → line chart.events r ≡ line chart.events u

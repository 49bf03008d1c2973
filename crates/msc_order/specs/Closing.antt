-- What a table keeps while it is closed.
use Rattle.std.specs.Prelude.{◌≡◌, ◌≢◌, ℕ, ◌*◌, ◌<◌, ◌≤◌, Bool, false, ◌||◌, ◌⊎◌, List, length, take, IsTrue}
use Rattle.msc_chart.specs.declared.event.ChartEvent.{ChartEvent}
use Rattle.msc_chart.specs.Lists.{occurs}
use Rattle.msc_chart.specs.Charts.{partner, is_output, is_controlled, before}
use Rattle.msc_chart.specs.Orders.{WiredChart, queue, Enforced}
use Rattle.msc_order.specs.Caused.{Led, Caused}
use Rattle.bit_rows.specs.Rows.{has, word_count}
use Rattle.bit_rows.specs.Tables.{cell}

-- What the line of e leads to: an event that is drawn after e and led to, and what comes after such
-- an event.
pub record LedByLine (events : List ChartEvent) (inputs : Bool) (e y : ℕ) : Type 0 where
  pub first : ℕ
  pub drawn : IsTrue (before events e first)
  pub led_to : IsTrue (inputs || is_controlled events first)
  pub onward : (first ≡ y) ⊎ Led events inputs first y

-- the numbers from start up to end are the events of the next segment after that of e on its line
pub record IsNextSegment (events : List ChartEvent) (e start end : ℕ) : Type 0 where
  pub rising : start ≤ end
  pub within : end ≤ length events
  pub drawn : (f : ℕ) → start ≤ f → f < end → IsTrue (before events e f)
  pub next : (y : ℕ) → IsTrue (before events e y)
      → (start < end) × (((start ≤ y) × (y < end)) ⊎ IsTrue (before events start y))

-- a test holds only pairs of the relation
abbrev pub HoldsOnly : (ℕ → ℕ → Type 0) → (ℕ → ℕ → Bool) → Type 0
HoldsOnly R test = (x y : ℕ) → IsTrue (test x y) → R x y

-- a test holds what the relation puts after x
abbrev pub HasRowOf : (ℕ → ℕ → Type 0) → (ℕ → ℕ → Bool) → ℕ → Type 0
HasRowOf R test x = (y : ℕ) → R x y → IsTrue (test x y)

-- a test holds exactly the pairs of a relation
pub record IsTestOf (R : ℕ → ℕ → Type 0) (test : ℕ → ℕ → Bool) : Type 0 where
  pub sound : HoldsOnly R test
  pub complete : (x : ℕ) → HasRowOf R test x

-- one test holds all that another does
abbrev pub Keeps : (ℕ → ℕ → Bool) → (ℕ → ℕ → Bool) → Type 0
Keeps old new = (x y : ℕ) → IsTrue (old x y) → IsTrue (new x y)

-- rows other than that of e are as they were
abbrev pub KeepsOthers : ℕ → (ℕ → ℕ → Bool) → (ℕ → ℕ → Bool) → Type 0
KeepsOthers e old new = (x y : ℕ) → x ≢ e → new x y ≡ old x y

-- A test while it is closed, row by row: it holds only pairs that are led to. A row that is begun has
-- all that the line of its event leads to, and no other has anything.
pub record IsBegun (events : List ChartEvent) (inputs : Bool) (test : ℕ → ℕ → Bool) (begun : ℕ → Bool) : Type 0 where
  pub sound : HoldsOnly (Led events inputs) test
  pub lines : (x : ℕ) → IsTrue (begun x) → HasRowOf (LedByLine events inputs) test x
  pub blank : (x y : ℕ) → begun x ≡ false → test x y ≡ false

-- the same of the pairs of a table, and of one row of marks
abbrev pub AreBegun : List ChartEvent → Bool → List ℕ → List ℕ → Type 0
AreBegun events inputs words begun = IsBegun events inputs (cell (length events) words) (has begun)

-- event x does not stand among the first k of the order
abbrev pub IsBehind : List ℕ → ℕ → ℕ → Type 0
IsBehind order k x = occurs (take k order) x ≡ false

-- A test between the caused and the enforced order: from an output it is the caused order, and what
-- is caused after what it holds it holds too.
pub record IsBetween (chart : WiredChart) (test : ℕ → ℕ → Bool) : Type 0 where
  pub caused : (x y : ℕ) → Caused chart.events x y → IsTrue (test x y)
  pub enforced : HoldsOnly (Enforced chart) test
  pub outputs : (x y : ℕ) → IsTrue (is_output chart.events x) → IsTrue (test x y) → Caused chart.events x y
  pub onward : (x y z : ℕ) → IsTrue (test x y) → Caused chart.events y z → IsTrue (test x z)

-- an output of a queue
pub record IsOutputOf (chart : WiredChart) (q c : ℕ) : Type 0 where
  pub output : IsTrue (is_output chart.events c)
  pub one_queue : queue chart c ≡ q

-- The inputs after that of output s are in the test: for each output of its queue that is caused
-- after s, the input of s is before the other input.
abbrev pub HasQueueOf : WiredChart → (ℕ → ℕ → Bool) → ℕ → Type 0
HasQueueOf chart test s =
    (c : ℕ) → IsOutputOf chart (queue chart s) c → Caused chart.events s c
    → IsTrue (test (partner chart.events s) (partner chart.events c))

-- The masks hold outputs, each in the row of its queue, whose later inputs the test has.
abbrev pub HasSeen : WiredChart → (ℕ → ℕ → Bool) → (ℕ → ℕ → Bool) → Type 0
HasSeen chart test masks = (q c : ℕ) → IsTrue (masks q c) → IsOutputOf chart q c × HasQueueOf chart test c

-- The outputs of a row are of one queue, and the test has the inputs after that of each.
pub record AreSeen (chart : WiredChart) (test : ℕ → ℕ → Bool) (left : ℕ → Bool) : Type 0 where
  pub seen : (c : ℕ) → IsTrue (left c) → IsTrue (is_output chart.events c) × HasQueueOf chart test c
  pub one_queue : (c d : ℕ) → IsTrue (left c) → IsTrue (left d) → queue chart d ≡ queue chart c

-- the input of an output of a row is y, or is enforced before y
abbrev pub IsAfterOne : WiredChart → (ℕ → Bool) → ℕ → Type 0
IsAfterOne chart row y =
    (c : ℕ) × IsTrue (row c) × ((partner chart.events c ≡ y) ⊎ Enforced chart (partner chart.events c) y)

-- a row has what is caused after what it has
abbrev pub IsOnward : WiredChart → (ℕ → Bool) → Type 0
IsOnward chart row = (y z : ℕ) → IsTrue (row y) → Caused chart.events y z → IsTrue (row z)

-- What an input takes in, where the outputs of the row `kept` are those of its queue that are caused
-- after its own: their inputs, what is caused after these, and nothing that isn't enforced.
pub record IsTaken (chart : WiredChart) (kept taken : ℕ → Bool) : Type 0 where
  pub inputs : (c : ℕ) → IsTrue (kept c) → IsTrue (taken (partner chart.events c))
  pub after : (y : ℕ) → IsTrue (taken y) → IsAfterOne chart kept y
  pub onward : IsOnward chart taken

-- Outputs were moved out of a row, so that it has less, and their inputs into another, so that it
-- has more, with what comes after them.
pub record AreMoved (chart : WiredChart) (left less taken more : ℕ → Bool) : Type 0 where
  pub fewer : (c : ℕ) → IsTrue (less c) → IsTrue (left c)
  pub inputs : (c : ℕ) → IsTrue (left c) → IsTrue (less c) ⊎ IsTrue (more (partner chart.events c))
  pub grown : (y : ℕ) → IsTrue (taken y) → IsTrue (more y)
  pub after : (y : ℕ) → IsTrue (more y) → IsTrue (taken y) ⊎ IsAfterOne chart left y
  pub onward : IsOnward chart taken → IsOnward chart more

-- a test of numbers holds none below k
abbrev pub IsAbove : ℕ → (ℕ → Bool) → Type 0
IsAbove k test = (c : ℕ) → IsTrue (test c) → k ≤ c

-- n rows of bits, with no bit past the last number
pub record IsWellKept (n : ℕ) (words : List ℕ) : Type 0 where
  pub square : length words ≡ n * word_count n
  pub tight : (x y : ℕ) → IsTrue (cell n words x y) → y < n

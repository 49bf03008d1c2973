-- The run of an instance: what it leaves, however it ends.
use Rattle.std.specs.Prelude.{◌≡◌, ◌≢◌, ℕ, ◌<◌, ◌≤◌, Bool, true, false, List, [], ◌∷◌, map, All, IsTrue, Some, slice_get}
use Rattle.std.specs.List.{AllZip}
use Rattle.msc_chart.specs.Lists.{occurs}
use Rattle.msc_chart.specs.Charts.{line, is_controlled, is_output, before}
use Rattle.msc_chart.specs.Drawings.{Drawing}
use Rattle.msc_fifo.specs.Ends.{IsSpentClock, unended_in}
use Rattle.msc_ending.specs.declared.end.End.{End}
use Rattle.msc_ending.specs.declared.end.End.TheVariants.{Finished, Starved, Impatient, Stopped, Foreign}
use Rattle.msc_execution.specs.Roles.{Role, EndLists, NumberedInlet}
use Rattle.msc_execution.specs.Logs.{IsLogOf, IsWholeLog, Reading, clock_along}
use Rattle.msc_execution.specs.Growth.{IsLeftBy, HasTaken, IsStrange}

-- what an instance leaves: its log, its ends and how it ended
pub record Left : Type 0 where
  pub log : List ℕ
  pub ends : EndLists
  pub end : End

-- the first output or local event of line i that is not in the log
pub record IsFirstDue (d : Drawing) (i : ℕ) (log : List ℕ) (s : ℕ) : Type 0 where
  pub controlled : IsTrue (is_controlled d.events s)
  pub on_line : line d.events s ≡ i
  pub missing : occurs log s ≡ false
  pub first : (t : ℕ) → t < s → IsTrue (is_controlled d.events t) → line d.events t ≡ i
      → IsTrue (occurs log t)

-- the log is not whole, and its line's first output or local event outside it, if there is one,
-- lacks something that is drawn before it
pub record IsHungry (r : Role) (log : List ℕ) : Type 0 where
  pub part : IsWholeLog r.chart r.number log → ⊥
  pub blocked : (s : ℕ) → IsFirstDue r.chart r.number log s
      → (x : ℕ) × IsTrue (before r.chart.events x s) × (occurs log x ≡ false)

-- the line's first output or local event outside the log is an output, and all that is drawn before
-- it is logged
pub record IsReadyToSend (r : Role) (log : List ℕ) : Type 0 where
  pub output : ℕ
  pub due : IsFirstDue r.chart r.number log output
  pub sends : IsTrue (is_output r.chart.events output)
  pub ready : (x : ℕ) → IsTrue (before r.chart.events x output) → IsTrue (occurs log x)

-- every sender of every inlet has ended
abbrev pub AllHaveEnded : List NumberedInlet → Type 0
AllHaveEnded inlets = All (λ (n : NumberedInlet). unended_in n.1 ≡ 0) inlets

-- nothing strange came in any queue
abbrev pub IsNothingStrange : (ℕ → List ℕ) → Type 0
IsNothingStrange strange = (q : ℕ) → strange q ≡ []

-- one message is strange, in one of the queues from which the instance takes
pub record IsStrangeAlone (r : Role) (left : Left) (strange : ℕ → List ℕ) (m : ℕ) : Type 0 where
  pub queue : ℕ
  pub own : IsTrue (occurs (map (λ (n : NumberedInlet). n.0) left.ends.inlets) queue)
  pub last : strange queue ≡ m ∷ []
  pub others : (q : ℕ) → q ≢ queue → strange q ≡ []
  pub is_strange : IsStrange r queue left.log m

-- What each way to end says. With a gate that is known to be open only a spent clock stops an
-- instance, and only before an output that it could send otherwise.
abbrev pub EndsAs : Role → Bool → ℕ → Reading → Left → (ℕ → List ℕ) → End → Type 0
EndsAs r open' patience reading left strange Finished =
    IsNothingStrange strange × IsWholeLog r.chart r.number left.log
EndsAs r open' patience reading left strange Starved =
    IsNothingStrange strange × IsHungry r left.log × AllHaveEnded left.ends.inlets
EndsAs r open' patience reading left strange Impatient =
    IsNothingStrange strange × IsHungry r left.log × (AllHaveEnded left.ends.inlets → ⊥)
    × All (λ (n : NumberedInlet). patience ≤ n.1.idle) left.ends.inlets
EndsAs r open' patience reading left strange Stopped =
    IsNothingStrange strange
    × (open' ≡ true → IsSpentClock (clock_along r.chart reading.read_at left.log))
    × (open' ≡ true → IsReadyToSend r left.log)
EndsAs r open' patience reading left strange (Foreign m) = IsStrangeAlone r left strange m

-- no take on these inlets has found nothing yet
abbrev pub AreEager : List NumberedInlet → Type 0
AreEager inlets = All (λ (n : NumberedInlet). n.1.idle ≡ 0) inlets

-- on some inlet the last n takes have found nothing, and no more
abbrev pub SomeIdled : ℕ → List NumberedInlet → Type 0
SomeIdled n inlets = (k : ℕ) × (x : NumberedInlet) × (slice_get inlets k ≡ Some x) × (x.1.idle ≡ n)

-- The run of an instance from these ends, that read these clocks and places. It is impatient once
-- its patience has run out, and no later. Without patience it takes nothing.
pub record IsRunBy (r : Role) (open' : Bool) (patience : ℕ) (reading : Reading) (before : EndLists)
    (left : Left) : Type 0 where
  pub log : IsLogOf r.chart r.number left.log
  pub put : AllZip (IsLeftBy r left.log reading) before.outlets left.ends.outlets
  pub strange : ℕ → List ℕ
  pub got : AllZip (HasTaken r left.log reading strange) before.inlets left.ends.inlets
  pub ended : EndsAs r open' patience reading left strange left.end
  pub in_time : left.end ≡ Impatient → AreEager before.inlets → SomeIdled patience left.ends.inlets
  pub untaken : patience ≡ 0 → left.ends.inlets ≡ before.inlets

-- The run of an instance from these ends, with a gate that is known to be open or is not.
pub record HasRun (r : Role) (open' : Bool) (patience : ℕ) (before : EndLists)
    (left : Left) : Type 0 where
  pub reading : Reading
  pub run : IsRunBy r open' patience reading before left

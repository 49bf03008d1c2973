-- Logs line by line, and the events that they have, told by marks.
use Rattle.std.specs.Prelude.{◌≡◌, ℕ, ◌<◌, ◌≤◌, Bool, false, ◌||◌, ◌↔◌, List, [], length, get_or, IsTrue}
use Rattle.msc_chart.specs.Lists.{occurs, Steps}
use Rattle.msc_chart.specs.Charts.{line, partner, is_input, is_controlled, before}
use Rattle.msc_chart.specs.Orders.{WiredChart}
use Rattle.msc_gather.specs.Schedule.{is_logged}

-- After these events the log of line i may go on with e: an event of the line that is new; a
-- controlled one has all that is drawn before it behind it.
pub record MayComeOnLine (chart : WiredChart) (i : ℕ) (past : List ℕ) (e : ℕ) : Type 0 where
  pub event : e < length chart.events
  pub on_line : line chart.events e ≡ i
  pub new : occurs past e ≡ false
  pub drawn : IsTrue (is_controlled chart.events e) → (x : ℕ) → IsTrue (before chart.events x e)
      → IsTrue (occurs past x)

-- a log of line i
abbrev pub IsLineLog : WiredChart → ℕ → List ℕ → Type 0
IsLineLog chart i log = Steps (MayComeOnLine chart i) [] log

-- a log of each of so many lines
abbrev pub AreLineLogs : WiredChart → ℕ → List (List ℕ) → Type 0
AreLineLogs chart lines logs = (i : ℕ) → i < lines → IsLineLog chart i (get_or logs i [])

-- e is marked
abbrev pub is_marked : List Bool → ℕ → Bool
is_marked marks e = get_or marks e false

-- the same as `MayComeOnLine`, where the events behind e are marked
pub record MayBeMarked (chart : WiredChart) (i : ℕ) (marks : List Bool) (e : ℕ) : Type 0 where
  pub event : e < length chart.events
  pub on_line : line chart.events e ≡ i
  pub new : is_marked marks e ≡ false
  pub drawn : IsTrue (is_controlled chart.events e) → (x : ℕ) → IsTrue (before chart.events x e)
      → IsTrue (is_marked marks x)

-- the numbers from start up to front are marked, and front is not
pub record IsFirstOpen (marks : List Bool) (start front : ℕ) : Type 0 where
  pub later : start ≤ front
  pub within : front ≤ length marks
  pub gone : (x : ℕ) → start ≤ x → x < front → IsTrue (is_marked marks x)
  pub clear : front < length marks → is_marked marks front ≡ false

-- the events of the list are marked, beside those that were
pub record AreMarkedBeside (old new : List Bool) (events : List ℕ) : Type 0 where
  pub long : length new ≡ length old
  pub told : (e : ℕ) → e < length old → is_marked new e ≡ (is_marked old e || occurs events e)

-- the events of the line are those from start up to some number
abbrev pub IsLineFrom : WiredChart → ℕ → ℕ → Type 0
IsLineFrom chart i start =
    (end : ℕ) × ((e : ℕ) → e < length chart.events
    → (line chart.events e ≡ i) ↔ ((start ≤ e) × (e < end)))

-- no event of the line is marked
abbrev pub IsUnmarked : WiredChart → ℕ → List Bool → Type 0
IsUnmarked chart i marks =
    (e : ℕ) → e < length chart.events → line chart.events e ≡ i → is_marked marks e ≡ false

-- the logged events of the first n lines are marked, and no others
pub record AreMarkedTo (chart : WiredChart) (logs : List (List ℕ)) (n : ℕ)
    (marks : List Bool) : Type 0 where
  pub long : length marks ≡ length chart.events
  pub done : (e : ℕ) → e < length chart.events → line chart.events e < n
      → is_marked marks e ≡ is_logged chart logs e
  pub later : (i : ℕ) → n ≤ i → IsUnmarked chart i marks

-- the logged events are marked, and no others
pub record AreMarks (chart : WiredChart) (logs : List (List ℕ)) (marks : List Bool) : Type 0 where
  pub long : length marks ≡ length chart.events
  pub told : (e : ℕ) → e < length chart.events → is_marked marks e ≡ is_logged chart logs e

-- where input r is marked, so is its output
abbrev pub HasOutput : WiredChart → List Bool → ℕ → Type 0
HasOutput chart marks r =
    IsTrue (is_marked marks r) → IsTrue (is_input chart.events r)
    → IsTrue (is_marked marks (partner chart.events r))

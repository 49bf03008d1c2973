-- How far the lines of a chart have come in a run.
use Rattle.std.specs.Prelude.{◌≡◌, ℕ, ◌<◌, ◌≤◌, false, ◌↔◌, ◌⊎◌, List, length, get_or, IsTrue}
use Rattle.msc_chart.specs.declared.event.ChartEvent.{ChartEvent}
use Rattle.msc_chart.specs.Drawings.{Drawing}
use Rattle.msc_chart.specs.Charts.{line, is_controlled, before, IsSegmentEnd}
use Rattle.msc_race.specs.declared.lines.Lines.{Lines}
use Rattle.bit_rows.specs.Rows.{has}
use Rattle.msc_race.specs.Rows.{IsRow}

-- f is the first event of line i that is left, or a number past the line
pub record IsFront (events : List ChartEvent) (left : List ℕ) (i f : ℕ) : Type 0 where
  pub within : f ≤ length events
  pub below : (y : ℕ) → y < f → line events y ≡ i → has left y ≡ false
  pub itself : f < length events → line events f ≡ i → IsTrue (has left f)
  pub reach : (y : ℕ) → f ≤ y → y < length events → line events y ≡ i → line events f ≡ i

-- a controlled event that is left, while nothing is left that is drawn before it
pub record IsOpenControlled (events : List ChartEvent) (left : List ℕ) (s : ℕ) : Type 0 where
  pub controlled : IsTrue (is_controlled events s)
  pub remains : IsTrue (has left s)
  pub ready : (x : ℕ) → IsTrue (before events x s) → has left x ≡ false

-- the events that are left, the front of each line, and the controlled that are open
pub record AreLines (instances : ℕ) (events : List ChartEvent) (lefts firsts opens : List ℕ) : Type 0 where
  pub left_row : IsRow (length events) lefts
  pub controlled_row : IsRow (length events) opens
  pub known : (y : ℕ) → IsTrue (has lefts y) → y < length events
  pub lines : length firsts ≡ instances
  pub fronts : (i : ℕ) → i < instances → IsFront events lefts i (get_or firsts i 0)
  pub controlled : (y : ℕ) → IsTrue (has opens y) ↔ IsOpenControlled events lefts y

-- f is the first event of line i from start on, or the number of events
pub record IsLowest (events : List ChartEvent) (start i f : ℕ) : Type 0 where
  pub least : (y : ℕ) → start ≤ y → y < length events → line events y ≡ i → f ≤ y
  pub within : f ≤ length events
  pub itself : f < length events → (line events f ≡ i) × (start ≤ f)

-- of each line the first event from start on, or the number of events
abbrev pub AreFirst : Drawing → List ℕ → ℕ → Type 0
AreFirst d firsts start =
    (i : ℕ) → i < length d.instances → IsLowest d.events start i (get_or firsts i 0)

-- all events are left, and what is open is told of the lines below k
pub record AreLinesTo (d : Drawing) (lefts firsts opens : List ℕ) (k : ℕ) : Type 0 where
  pub left_row : IsRow (length d.events) lefts
  pub controlled_row : IsRow (length d.events) opens
  pub left : (y : ℕ) → IsTrue (has lefts y) ↔ (y < length d.events)
  pub lines : length firsts ≡ length d.instances
  pub fronts : AreFirst d firsts 0
  pub controlled : (y : ℕ) → IsTrue (has opens y) ↔ (IsOpenControlled d.events lefts y × (line d.events y < k))

-- a controlled event that is left in the segment of f, from f on and before end
pub record IsToOpen (events : List ChartEvent) (left : List ℕ) (f end s : ℕ) : Type 0 where
  pub later : f ≤ s
  pub within : s < end
  pub controlled : IsTrue (is_controlled events s)
  pub remains : IsTrue (has left s)

-- where the events end that are opened on line i, whose front goes from start to f: with the segment
-- of f, which is on the line, or before any, where f is past the line or not drawn after start
abbrev pub IsOpenedEnd : List ChartEvent → ℕ → ℕ → ℕ → ℕ → Type 0
IsOpenedEnd events i start f end =
    ((line events f ≡ i) × IsSegmentEnd events f end)
    ⊎ ((end ≡ f) × (f < length events → line events f ≡ i → before events start f ≡ false))

-- f is the first number from start on that is left or not on line i
pub record IsNextLeft (events : List ChartEvent) (left : List ℕ) (i start f : ℕ) : Type 0 where
  pub later : start ≤ f
  pub within : f ≤ length events
  pub between : (y : ℕ) → start ≤ y → y < f → (line events y ≡ i) × (has left y ≡ false)
  pub itself : f < length events → line events f ≡ i → IsTrue (has left f)

-- the lines of a chart, as the code holds them
abbrev pub HoldsLines : Drawing → Lines → Type 0
HoldsLines d l = AreLines (length d.instances) d.events l.left.items l.fronts.items l.controlled

-- and while the controlled are opened
abbrev pub HoldsLinesTo : Drawing → Lines → ℕ → Type 0
HoldsLinesTo d l k = AreLinesTo d l.left.items l.fronts.items l.controlled k

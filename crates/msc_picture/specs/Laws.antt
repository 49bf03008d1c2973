-- Laws of pictures: what the definitions of rows and of drawing orders come to.
use Rattle.std.specs.Prelude.{◌≡◌, ℕ, ◌+◌, ◌<◌, ◌≤◌, ◌⊎◌, false, List, [], ◌∷◌, Option, None, Some, get_or, length, IsTrue}
use Rattle.std.specs.List.{All, flat_map}
use Rattle.std.specs.List.Sorted.{IsNonDecreasingBy}
use Rattle.msc_chart.specs.declared.event.ChartEvent.{ChartEvent}
use Rattle.msc_chart.specs.Charts.{is_output, line, partner, IsLinearOrder, Visual}
use Rattle.msc_chart.specs.Lists.{occurs, until, Occurs, StandsAt}
use Rattle.msc_chart.specs.declared.queue.Queues.{Queues}
use Rattle.msc_chart.specs.Drawings.{Drawing, IsAccepted}
use Rattle.msc_chart.specs.Orders.{wired}
use Rattle.msc_chart.specs.Runs.{IsWhole, Run}
use Rattle.msc_picture.specs.declared.scene.Band.{Band}
use Rattle.msc_picture.specs.declared.scene.RaceBar.{RaceBar}
use Rattle.msc_picture.specs.declared.scene.Row.{Row}
use Rattle.msc_picture.specs.Frames.{chart_frame, rank_of, IsDrawingOrder}
use Rattle.msc_picture.specs.Bars.{AreDrawnPairs, bars_of}
use Rattle.msc_picture.specs.RunFrames.{run_frame}
use Rattle.msc_picture.specs.Rows.{answers_to, bands_of, begins_band, row_of_one, row_passes, rows_of, share_segment}

-- a list of what there is
abbrev pub as_list : Option ℕ → List ℕ
as_list None = []
as_list (Some e) = e ∷ []

-- the events of a row
abbrev pub row_events : Row → List ℕ
row_events row = row.first ∷ as_list row.second

-- the events of rows, read from the first row down
abbrev pub events_of_rows : List Row → List ℕ
events_of_rows rows = flat_map row_events rows

-- the rows, read down, are the order
abbrev pub RowsReadBack : Type 0
RowsReadBack = (events : List ChartEvent) (order : List ℕ) → events_of_rows (rows_of events order) ≡ order

-- two events of a row are an output and its input
abbrev pub IsOfOneMessage : List ChartEvent → Row → Type 0
IsOfOneMessage events row = (r : ℕ) → row.second ≡ Some r → IsTrue (answers_to events row.first r)

-- no row has the events of two messages, so there is one label at most
abbrev pub OneLabelInARow : Type 0
OneLabelInARow =
    (events : List ChartEvent) (order : List ℕ) → All (IsOfOneMessage events) (rows_of events order)

-- no row of one event stands right above a row that begins with the input of that event
abbrev pub AreFull : List ChartEvent → List Row → Type 0
AreFull events [] = Unit {0}
AreFull events (x ∷ []) = Unit {0}
AreFull events (x ∷ y ∷ ys) =
    (x.second ≡ None → answers_to events x.first y.first ≡ false) × AreFull events (y ∷ ys)

-- an output and its input share a row wherever nothing is drawn between them
abbrev pub RowsAreFull : Type 0
RowsAreFull = (events : List ChartEvent) (order : List ℕ) → AreFull events (rows_of events order)

-- event x is in row i
pub record IsInRow (rows : List Row) (i x : ℕ) : Type 0 where
  pub within : i < length rows
  pub event : IsTrue (occurs (row_events (get_or rows i (row_of_one 0))) x)

-- what precedes an event visibly is in a row above it, or is its output in the same row
abbrev pub RowsKeepTheVisualOrder : Type 0
RowsKeepTheVisualOrder =
    (events : List ChartEvent) (order : List ℕ) (i j x y : ℕ) → IsLinearOrder events order
    → IsInRow (rows_of events order) i x → IsInRow (rows_of events order) j y → Visual events x y
    → (i < j) ⊎ ((i ≡ j) × IsTrue (answers_to events x y))

-- the two ends of each message have one rank
abbrev pub EndsShareRanks : List ChartEvent → List ℕ → Type 0
EndsShareRanks events ranks =
    (s : ℕ) → IsTrue (is_output events s) → rank_of ranks (partner events s) ≡ rank_of ranks s

-- If some order of a chart's events keeps the visual order, ranks do not fall along it, and the two
-- ends of each message have one rank, then ranks do not fall along the order in which the chart is
-- drawn by them. So a diagram's arrows are drawn in the order of its text.
abbrev pub DrawnRanksDoNotFall : Type 0
DrawnRanksDoNotFall =
    (events : List ChartEvent) (ranks text order : List ℕ) → IsLinearOrder events text
    → IsNonDecreasingBy (rank_of ranks) text → EndsShareRanks events ranks
    → IsDrawingOrder (chart_frame events) (Some ranks) order
    → IsNonDecreasingBy (rank_of ranks) order

-- two events of one line come in one order in both lists
abbrev pub KeepsLinesOf : List ChartEvent → List ℕ → List ℕ → Type 0
KeepsLinesOf events run order =
    (x y : ℕ) → x < length events → y < length events → line events x ≡ line events y
    → IsTrue (occurs (until run y) x) → IsTrue (occurs (until order y) x)

-- the picture of a whole run is a whole run too, in which the events of each line come as in the
-- run
abbrev pub DrawnRunsAreRuns : Type 0
DrawnRunsAreRuns =
    (queues : Queues) (d : Drawing) (ranks : Option (List ℕ)) (run order : List ℕ) → IsAccepted d → Run (wired queues d) run
    → IsWhole (wired queues d) run → IsDrawingOrder (run_frame (wired queues d) run) ranks order
    → Run (wired queues d) order × KeepsLinesOf d.events run order

-- a bar has the closest race at place k of a list, whose number is one more: the race leads from an
-- upper to a lower event of the bar, on its instance
pub record BarsRace (events : List ChartEvent) (bar : RaceBar) (k e f : ℕ) : Type 0 where
  pub instance : bar.instance ≡ line events e
  pub upper : IsTrue (occurs bar.upper e)
  pub lower : IsTrue (occurs bar.lower f)
  pub from : bar.first ≤ k + 1
  pub to : k + 1 ≤ bar.last

-- each closest race has a bar
abbrev pub EachClosestRaceIsMarked : Type 0
EachClosestRaceIsMarked =
    (events : List ChartEvent) (closest : List (ℕ × ℕ)) (k e f : ℕ) → AreDrawnPairs events closest
    → StandsAt closest k (e, f)
    → (bar : RaceBar) × Occurs (bars_of events closest) bar × BarsRace events bar k e f

-- no other event is in a bar: from each upper event leads, and to each lower one, a closest race
-- that the bar has
abbrev pub BarsHaveNoOther : Type 0
BarsHaveNoOther =
    (events : List ChartEvent) (closest : List (ℕ × ℕ)) (bar : RaceBar) (x : ℕ) → AreDrawnPairs events closest
    → Occurs (bars_of events closest) bar
    → (IsTrue (occurs bar.upper x) → (k : ℕ) × (f : ℕ) × StandsAt closest k (x, f) × BarsRace events bar k x f)
    × (IsTrue (occurs bar.lower x) → (k : ℕ) × (e : ℕ) × StandsAt closest k (e, x) × BarsRace events bar k e x)

-- an event of row r is in the segment of e
abbrev pub HasOfSegment : List ChartEvent → List Row → ℕ → ℕ → Type 0
HasOfSegment events rows e r =
    (row : Row) × StandsAt rows r row × IsTrue (row_passes (share_segment events e) row)

-- a band goes over the rows with events of the segment that e begins: from the first to the last
pub record IsBandOf (events : List ChartEvent) (rows : List Row) (e : ℕ) (band : Band) : Type 0 where
  pub instance : band.instance ≡ line events e
  pub begins : IsTrue (begins_band events e)
  pub first : HasOfSegment events rows e band.first
  pub last : HasOfSegment events rows e band.last
  pub around : (r : ℕ) → HasOfSegment events rows e r → (band.first ≤ r) × (r ≤ band.last)

-- each band is that of a segment of several events
abbrev pub BandsAreOfCoregions : Type 0
BandsAreOfCoregions =
    (events : List ChartEvent) (rows : List Row) (band : Band) → Occurs (bands_of events rows) band
    → (e : ℕ) × (e < length events) × IsBandOf events rows e band

-- and each such segment that stands in some row has a band
abbrev pub EachCoregionHasABand : Type 0
EachCoregionHasABand =
    (events : List ChartEvent) (rows : List Row) (e r : ℕ) → e < length events
    → IsTrue (begins_band events e) → HasOfSegment events rows e r
    → (band : Band) × Occurs (bands_of events rows) band × IsBandOf events rows e band

-- row r has the other end of the message of x, an event of the segment of e
abbrev pub HasItsOtherEnd : List ChartEvent → List Row → ℕ → ℕ → ℕ → Type 0
HasItsOtherEnd events rows e r x =
    (y : ℕ) × IsInRow rows r y × IsTrue (share_segment events e y)
    × (IsTrue (answers_to events x y) ⊎ IsTrue (answers_to events y x))

-- no other event of its line is in the rows of a band, but one whose message has its other end
-- there, in the same row
abbrev pub BandsHaveNoOther : Type 0
BandsHaveNoOther =
    (events : List ChartEvent) (order : List ℕ) (e r x : ℕ) (band : Band)
    → IsLinearOrder events order → IsBandOf events (rows_of events order) e band
    → IsInRow (rows_of events order) r x → line events x ≡ line events e → band.first ≤ r
    → r ≤ band.last
    → IsTrue (share_segment events e x) ⊎ HasItsOtherEnd events (rows_of events order) e r x

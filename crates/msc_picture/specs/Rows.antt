-- The rows of a picture (this project's own).
use Rattle.std.specs.Prelude.{ℕ, ◌+◌, ◌-◌, ◌<◌, Bool, false, ◌&&◌, ◌||◌, cond, List, [], ◌∷◌, Option, None, Some, nat_eq, nat_lt, length, not}
use Rattle.std.specs.List.{All, flat_map, range_with_len}
use Rattle.msc_chart.specs.declared.event.ChartEvent.{ChartEvent}
use Rattle.msc_chart.specs.Charts.{line, segment, partner, is_output}
use Rattle.msc_picture.specs.declared.scene.Row.{Row}
use Rattle.msc_picture.specs.declared.scene.Band.{Band}

-- the row of one event
abbrev pub row_of_one : ℕ → Row
row_of_one e = record { first = e; second = None }

-- the row of an output and its input
abbrev pub row_of_two : ℕ → ℕ → Row
row_of_two s r = record { first = s; second = Some r }

-- r is the input of output s
abbrev pub answers_to : List ChartEvent → ℕ → ℕ → Bool
answers_to events s r = is_output events s && nat_eq (partner events s) r

-- the rows of these events after an event that has no row yet, if there is one: an input that stands
-- right behind its output shares the row of that, and every other event begins a row
abbrev pub rows_after : List ChartEvent → Option ℕ → List ℕ → List Row
rows_after events None [] = []
rows_after events (Some s) [] = row_of_one s ∷ []
rows_after events None (e ∷ es) = rows_after events (Some e) es
rows_after events (Some s) (e ∷ es) =
    cond (answers_to events s e) (row_of_two s e ∷ rows_after events None es)
    (row_of_one s ∷ rows_after events (Some e) es)

-- the rows of events in this order
abbrev pub rows_of : List ChartEvent → List ℕ → List Row
rows_of events order = rows_after events None order

-- there is no number, or it is below n
abbrev pub IsNoneOrBelow : ℕ → Option ℕ → Type 0
IsNoneOrBelow n None = Unit {0}
IsNoneOrBelow n (Some e) = e < n

-- the events of a row are below n
abbrev pub IsKnownRow : ℕ → Row → Type 0
IsKnownRow n row = (row.first < n) × IsNoneOrBelow n row.second

-- so are those of each row
abbrev pub AreKnownRows : ℕ → List Row → Type 0
AreKnownRows n rows = All (IsKnownRow n) rows

-- e and f are on one line, and in one segment of it
abbrev pub share_segment : List ChartEvent → ℕ → ℕ → Bool
share_segment events e f =
    nat_eq (line events e) (line events f) && nat_eq (segment events e) (segment events f)

-- the second event of a row passes a test
abbrev pub second_passes : (ℕ → Bool) → Option ℕ → Bool
second_passes test None = false
second_passes test (Some e) = test e

-- an event of the row passes a test
abbrev pub row_passes : (ℕ → Bool) → Row → Bool
row_passes test row = test row.first || second_passes test row.second

-- a range of places, with one more place
abbrev pub grown : Option (ℕ × ℕ) → ℕ → ℕ × ℕ
grown None k = (k, k)
grown (Some p) k = (p.0, k)

-- the first and the last of the items that pass a test, of items from place k on, after such a range
abbrev pub reach_from : {X : Type 0} → (X → Bool) → Option (ℕ × ℕ) → ℕ → List X → Option (ℕ × ℕ)
reach_from test reach k [] = reach
reach_from test reach k (x ∷ xs) =
    reach_from test (cond (test x) (Some (grown reach k)) reach) (k + 1) xs

-- the places of the first and the last item that pass a test, if any does
abbrev pub reach_of : {X : Type 0} → (X → Bool) → List X → Option (ℕ × ℕ)
reach_of test xs = reach_from test None 0 xs

-- e is the first event of its segment
abbrev pub begins_segment : List ChartEvent → ℕ → Bool
begins_segment events e = not (nat_lt 0 e && share_segment events (e - 1) e)

-- e is the first of several events of a segment
abbrev pub begins_band : List ChartEvent → ℕ → Bool
begins_band events e =
    begins_segment events e && (nat_lt (e + 1) (length events) && share_segment events e (e + 1))

-- the band of an instance over a range of rows
abbrev pub band_over : ℕ → Option (ℕ × ℕ) → List Band
band_over instance None = []
band_over instance (Some reach) =
    record { instance = instance; first = reach.0; last = reach.1 } ∷ []

-- the band of the segment that e begins, if it has several events: from the first to the last row
-- with an event of it
abbrev pub band_at : List ChartEvent → List Row → ℕ → List Band
band_at events rows e =
    cond (begins_band events e)
    (band_over (line events e) (reach_of (row_passes (share_segment events e)) rows)) []

-- the bands of a chart, by instance and from above
abbrev pub bands_of : List ChartEvent → List Row → List Band
bands_of events rows = flat_map (band_at events rows) (range_with_len 0 (length events))

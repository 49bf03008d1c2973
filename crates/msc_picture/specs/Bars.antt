-- The bars of closest races (this project's own).
use Rattle.std.specs.Prelude.{ℕ, ◌+◌, ◌<◌, Bool, true, false, ◌&&◌, cond, List, [], ◌∷◌, Option, None, Some, filter, nat_eq, length, IsTrue}
use Rattle.std.specs.List.{flat_map, range_with_len, list_any, All}
use Rattle.msc_chart.specs.declared.event.ChartEvent.{ChartEvent}
use Rattle.msc_chart.specs.Charts.{before, line}
use Rattle.msc_chart.specs.Lists.{Occurs}
use Rattle.msc_picture.specs.declared.scene.RaceBar.{RaceBar}
use Rattle.msc_picture.specs.Rows.{share_segment, begins_segment, reach_of}

-- both of each pair are events
abbrev pub AreEventPairs : List ChartEvent → List (ℕ × ℕ) → Type 0
AreEventPairs events pairs = All (λ p. (p.0 < length events) × (p.1 < length events)) pairs

-- of each pair the first is drawn before the second, as it is of a race
abbrev pub AreDrawnPairs : List ChartEvent → List (ℕ × ℕ) → Type 0
AreDrawnPairs events pairs = (e f : ℕ) → Occurs pairs (e, f) → IsTrue (before events e f)

-- the first event of the pair is in the segment of e
abbrev pub is_from : List ChartEvent → ℕ → ℕ × ℕ → Bool
is_from events e p = share_segment events e p.0

-- the first of a pair, or its second
abbrev pub end_of : Bool → ℕ × ℕ → ℕ
end_of lower p = cond lower p.1 p.0

-- x is the first, or the second, event of a pair from the segment of e
abbrev pub is_end_of : List ChartEvent → List (ℕ × ℕ) → ℕ → Bool → ℕ → Bool
is_end_of events pairs e lower x =
    list_any (λ p. is_from events e p && nat_eq (end_of lower p) x) pairs

-- the first, or the second, events of the pairs from the segment of e, ascending, each once
abbrev pub ends_of : List ChartEvent → List (ℕ × ℕ) → ℕ → Bool → List ℕ
ends_of events pairs e lower =
    filter (is_end_of events pairs e lower) (range_with_len 0 (length events))

-- the bar of the pairs from the segment of e, which stand in this range of places
abbrev pub bar_over : List ChartEvent → List (ℕ × ℕ) → ℕ → Option (ℕ × ℕ) → List RaceBar
bar_over events pairs e None = []
bar_over events pairs e (Some reach) =
    record {
      instance = line events e;
      upper = ends_of events pairs e false;
      lower = ends_of events pairs e true;
      first = reach.0 + 1;
      last = reach.1 + 1;
    } ∷ []

-- the bar of the pairs from the segment that e begins, if there is any
abbrev pub bar_at : List ChartEvent → List (ℕ × ℕ) → ℕ → List RaceBar
bar_at events pairs e =
    cond (begins_segment events e)
    (bar_over events pairs e (reach_of (is_from events e) pairs)) []

-- the bars of these pairs, which are numbered from 1: one for each segment that pairs lead from
abbrev pub bars_of : List ChartEvent → List (ℕ × ℕ) → List RaceBar
bars_of events pairs = flat_map (bar_at events pairs) (range_with_len 0 (length events))

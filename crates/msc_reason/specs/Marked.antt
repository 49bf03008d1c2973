-- What the code keeps of the races that count: their causes by the order, and where they begin and
-- end.
use Rattle.std.specs.Prelude.{◌≡◌, ℕ, ◌+◌, ◌<◌, ◌≤◌, Bool, ◌&&◌, not, cond, List, length, get_or, nat_eq, IsTrue}
use Rattle.std.specs.List.{filter}
use Rattle.msc_chart.specs.declared.event.ChartEvent.{ChartEvent}
use Rattle.msc_chart.specs.Charts.{partner, is_controlled, IsSegmentEnd}
use Rattle.msc_chart.specs.Orders.{queue}
use Rattle.msc_order.specs.Tables.{orders}
use Rattle.msc_race.specs.Races.{is_raced}
use Rattle.msc_race.specs.Views.{races_from, wiring_of}
use Rattle.msc_race.specs.Wired.{EnforcedChart}
use Rattle.msc_reason.specs.Counting.{counts, is_listed}
use Rattle.msc_reason.specs.Causes.{needed}
use Rattle.msc_reason.specs.declared.left_out.LeftOut.{LeftOut}
use Rattle.msc_reason.specs.declared.cause.Cause.{Cause}
use Rattle.msc_reason.specs.declared.cause.RaceKind.{RaceKind}
use Rattle.msc_reason.specs.declared.cause.RaceKind.TheVariants.{Early, Queues, Unordered, Overtaken}

-- the kind of a race, by the order of the chart's events
abbrev pub kind_in : EnforcedChart → ℕ → ℕ → RaceKind
kind_in e x y =
    cond (is_controlled e.chart.events x) Early
    (cond (not (nat_eq (queue (wiring_of e) x) (queue (wiring_of e) y))) Queues
    (cond (orders e.order (partner e.chart.events y) (partner e.chart.events x)) Overtaken Unordered))

-- what would have to come before the output of the second event of a race, by its kind and its
-- first event
abbrev pub needed_in : List ChartEvent → RaceKind → ℕ → ℕ
needed_in events Early x = x
needed_in events Queues x = x
needed_in events Unordered x = partner events x
needed_in events Overtaken x = partner events x

-- the cause of a race, by this order
abbrev pub cause_in : EnforcedChart → ℕ → ℕ → Cause
cause_in e x y = record {
  kind = kind_in e x y;
  needed = needed (wiring_of e) x y;
  output = partner e.chart.events y;
  always = orders e.order y x;
}

-- the pair is a race that counts
unfoldable pub is_counted : EnforcedChart → LeftOut → ℕ → ℕ → Bool
is_counted e allowed x y = is_raced e.chart.events e.order x y && counts allowed (cause_in e) (x, y)

-- the races of x that count, ascending
abbrev pub counted_from : EnforcedChart → LeftOut → ℕ → List (ℕ × ℕ)
counted_from e allowed x = filter (counts allowed (cause_in e)) (races_from e x)

-- those that are listed
abbrev pub listed_from : EnforcedChart → LeftOut → Bool → ℕ → List (ℕ × ℕ)
listed_from e allowed closest x = filter (is_listed e allowed closest (cause_in e)) (races_from e x)

-- y is the least event with which x passes a test, or past them all where there is none
pub record IsLeastSecond (test : ℕ → ℕ → Bool) (events x y : ℕ) : Type 0 where
  pub none_below : (z : ℕ) → IsTrue (test x z) → y ≤ z
  pub itself : y < events → IsTrue (test x y)

-- For each event y the last event that passes a test with it. For each number s the least event
-- with which an event passes that is not below s; or the number of events, where there is none.
pub record AreMarks (test : ℕ → ℕ → Bool) (events : ℕ) (last least : List ℕ) : Type 0 where
  pub lasts : length last ≡ events
  pub leasts : length least ≡ events + 1
  pub end : (x y : ℕ) → IsTrue (test x y) → (x ≤ get_or last y 0) × IsTrue (test (get_or last y 0) y)
  pub none_below : (s x y : ℕ) → s ≤ x → IsTrue (test x y) → get_or least s 0 ≤ y
  pub itself : (s : ℕ) → s ≤ events → get_or least s 0 < events
      → (x : ℕ) × (s ≤ x) × IsTrue (test x (get_or least s 0))

-- The marks are those of the races that count, p is such a race, low the least event in which one
-- of its first event ends, and the segment of that ends before this number.
pub record IsMarked (e : EnforcedChart) (allowed : LeftOut) (last least : List ℕ) (low past : ℕ) (p : ℕ × ℕ) : Type 0 where
  pub marks : AreMarks (is_counted e allowed) (length e.chart.events) last least
  pub race : IsTrue (is_counted e allowed p.0 p.1)
  pub first : IsLeastSecond (is_counted e allowed) (length e.chart.events) p.0 low
  pub end : IsSegmentEnd e.chart.events p.0 past

-- the marks are those of the races that count, the pairs are such races of one event, and the
-- segment of the event ends before this number
pub record AreOfOneEvent (e : EnforcedChart) (allowed : LeftOut) (last least : List ℕ) (past : ℕ) (pairs : List (ℕ × ℕ)) : Type 0 where
  pub event : ℕ
  pub marks : AreMarks (is_counted e allowed) (length e.chart.events) last least
  pub end : IsSegmentEnd e.chart.events event past
  pub races : pairs ≡ counted_from e allowed event

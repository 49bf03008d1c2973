-- What the code keeps while it makes the bars of closest races, event by event.
use Rattle.std.specs.Prelude.{◌≡◌, ℕ, ◌+◌, ◌-◌, ◌<◌, Bool, true, false, List, [], ◌∷◌, Option, None, Some, get_or, length, max, replicate, slice_set, IsTrue}
use Rattle.std.specs.List.{flat_map, range_with_len, All}
use Rattle.msc_chart.specs.declared.event.ChartEvent.{ChartEvent}
use Rattle.msc_chart.specs.Charts.{line}
use Rattle.msc_picture.specs.declared.scene.RaceBar.{RaceBar}
use Rattle.msc_picture.specs.Bars.{is_end_of, is_from, bar_at}
use Rattle.msc_picture.specs.Rows.{begins_segment, grown, reach_of, share_segment}
use Rattle.msc_draw.specs.declared.marking.Marking.{Marking}
use Rattle.msc_draw.specs.Notes.{noted}

-- the bar of the races of the segment that event e begins, whose first and second events are noted
-- in these tables, and which stand in this range of places, if there are any
abbrev pub bar_by : List ChartEvent → List Bool → List Bool → ℕ → Option (ℕ × ℕ) → List RaceBar
bar_by events upper lower e None = []
bar_by events upper lower e (Some reach) =
    record {
      instance = line events e;
      upper = noted upper (length events);
      lower = noted lower (length events);
      first = reach.0 + 1;
      last = reach.1 + 1;
    } ∷ []

-- the tables have a place for each event, and the segment at hand begins with an event
pub record HasTables (events : List ChartEvent) (m : Marking) : Type 0 where
  pub upper : length m.upper ≡ length events
  pub lower : length m.lower ≡ length events
  pub within : m.begun < max 1 (length events)

-- the segment that event e begins is at hand, and no race of it is noted
pub record IsFresh (events : List ChartEvent) (e : ℕ) (m : Marking) : Type 0 where
  pub upper : m.upper ≡ replicate (length events) false
  pub lower : m.lower ≡ replicate (length events) false
  pub begun : m.begun ≡ e
  pub reach : m.reach ≡ None

-- one more race is noted
pub record IsAdded (race : ℕ × ℕ) (old new : Marking) : Type 0 where
  pub upper : new.upper ≡ slice_set old.upper race.0 true
  pub lower : new.lower ≡ slice_set old.lower race.1 true
  pub reach : new.reach ≡ Some (grown old.reach old.told)
  pub told : new.told ≡ old.told + 1
  pub bars : new.bars.items ≡ old.bars.items
  pub begun : new.begun ≡ old.begun

-- these are pairs of event e with events below n
abbrev pub AreOf : ℕ → ℕ → List (ℕ × ℕ) → Type 0
AreOf n e races = All (λ p. (p.0 ≡ e) × (p.1 < n)) races

-- These races of the events below n are noted: the bars are those of the segments above the one at
-- hand, the tables have the first and the second events of the races from that, and the range has
-- the places of the first and the last of them.
pub record IsMarking (events : List ChartEvent) (n : ℕ) (races : List (ℕ × ℕ)) (bars : List RaceBar) (upper lower : List Bool) (begun : ℕ) (reach : Option (ℕ × ℕ)) (told : ℕ) : Type 0 where
  pub marked : bars ≡ flat_map (bar_at events races) (range_with_len 0 begun)
  pub uppers : (x : ℕ) → x < length events → get_or upper x false ≡ is_end_of events races begun false x
  pub lowers : (x : ℕ) → x < length events → get_or lower x false ≡ is_end_of events races begun true x
  pub reached : reach ≡ reach_of (is_from events begun) races
  pub counted : told ≡ length races
  pub firsts : All (λ p. p.0 < n) races
  pub begins : IsTrue (begins_segment events begun)
  pub within : begun < max 1 n
  pub rest : (x : ℕ) → begun < x → x < n → begins_segment events x ≡ false
  pub shared : 0 < n → IsTrue (share_segment events begun (n - 1))
  pub long_upper : length upper ≡ length events
  pub long_lower : length lower ≡ length events

-- the same, as the code holds it
abbrev pub HoldsMarking : List ChartEvent → ℕ → List (ℕ × ℕ) → Marking → Type 0
HoldsMarking events n races m =
    IsMarking events n races m.bars.items m.upper m.lower m.begun m.reach m.told

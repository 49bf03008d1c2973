-- The bars of the races that are listed.
use Rattle.std.specs.Prelude.{◌≡◌, ℕ, List, length}
use Rattle.msc_picture.specs.declared.scene.RaceBar.{RaceBar}
use Rattle.msc_picture.specs.Bars.{bars_of}
use Rattle.msc_race.specs.Views.{wiring_of}
use Rattle.msc_race.specs.Wired.{EnforcedChart}
use Rattle.msc_reason.specs.Closest.{IsClosestList}
use Rattle.msc_reason.specs.Counting.{listed}
use Rattle.msc_reason.specs.Marked.{cause_in, listed_from}
use Rattle.msc_reason.specs.Selected.{Selected}

-- the races that a listing lists, ascending
abbrev pub listed_of : Selected → List (ℕ × ℕ)
listed_of s = listed s.judged s.allowed s.closest (cause_in s.judged)

-- those of event e
abbrev pub listed_at : Selected → ℕ → List (ℕ × ℕ)
listed_at s e = listed_from s.judged s.allowed s.closest e

-- these are the bars of all closest races, which are so many
pub record AreClosestBars (e : EnforcedChart) (p : List RaceBar × ℕ) : Type 0 where
  pub closest : List (ℕ × ℕ)
  pub are : IsClosestList (wiring_of e) closest
  pub bars : p.0 ≡ bars_of e.chart.events closest
  pub told : p.1 ≡ length closest

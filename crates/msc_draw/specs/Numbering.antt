-- Bars of some of a chart's races, which are numbered on from others.
use Rattle.std.specs.Prelude.{◌≡◌, ℕ, ◌+◌, ◌<◌, ◌≤◌, List, get_or, length, map}
use Rattle.std.specs.List.Sorted.{IsNonDecreasingBy}
use Rattle.msc_chart.specs.declared.event.ChartEvent.{ChartEvent}
use Rattle.msc_picture.specs.declared.scene.RaceBar.{RaceBar}
use Rattle.msc_picture.specs.Bars.{AreEventPairs, bars_of}

-- these are pairs of events, and their first events do not fall along the list
pub record AreAscending (events : List ChartEvent) (races : List (ℕ × ℕ)) : Type 0 where
  pub known : AreEventPairs events races
  pub ascend : IsNonDecreasingBy (λ p. p.0) races

-- a bar, the numbers of whose races are greater by n
abbrev pub later_bar : ℕ → RaceBar → RaceBar
later_bar n bar = record {
  instance = bar.instance;
  upper = bar.upper;
  lower = bar.lower;
  first = bar.first + n;
  last = bar.last + n;
}

-- the bars of these races, which are numbered from n + 1
abbrev pub later_bars : List ChartEvent → List (ℕ × ℕ) → ℕ → List RaceBar
later_bars events races n = map (later_bar n) (bars_of events races)

-- from place `start` on the races before place `end` are of event e, and the one at `end` is not
pub record IsEndOf (races : List (ℕ × ℕ)) (start e end : ℕ) : Type 0 where
  pub later : start ≤ end
  pub within : end ≤ length races
  pub own : (k : ℕ) → start ≤ k → k < end → (get_or races k (0, 0)).0 ≡ e
  pub other : end < length races → (get_or races end (0, 0)).0 ≡ e → ⊥

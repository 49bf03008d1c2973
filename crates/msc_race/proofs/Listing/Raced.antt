-- Races of a chart under an architecture, event by event.
use Rattle.std.proofs.Common.{◌≡◌, ℕ, ◌+◌, ◌<◌, ◌≤◌, Bool, not, List, [], ◌++◌, length, get_or, ap}
use Rattle.std.proofs.lemmas.Option.{slice_get-get_or}
use Rattle.std.proofs.lemmas.Bool.{and_parts, not-true}
use Rattle.msc_chart.proofs.Drawn.{before_parts}
use Rattle.msc_chart.proofs.ListLemmas.{clash}
use Rattle.msc_chart.specs.Charts.{before}
use Rattle.msc_chart.specs.Orders.{IsRace}
use Rattle.msc_order.specs.Tables.{orders}
use Rattle.msc_race.specs.Races.{is_raced}
use Rattle.msc_race.proofs.Listing.Pairs.{below_all, below_more, below_none, of_rest, pairs_below, to_parts}
use Rattle.msc_race.specs.Wired.{EnforcedChart, IsEnforced}
use Rattle.msc_race.specs.Views.{wiring_of, races_from, races_of, AreFrom, AreRacesOf}

module _ (e : EnforcedChart) where
  -- what is drawn in an order that the table has not
  abbrev pub raced : ℕ → ℕ → Bool
  raced = is_raced e.chart.events e.order

  -- the races of the events below k
  abbrev pub races_below : ℕ → List (ℕ × ℕ)
  races_below k = pairs_below raced (length e.chart.events) k

  -- none are below the first event
  pub no_races_below : races_below 0 ≡ []
  no_races_below = below_none raced (length e.chart.events)

  -- one event more brings its own
  pub races_below_more : (k : ℕ) → races_below (k + 1) ≡ races_below k ++ races_from e k
  races_below_more k = below_more raced (length e.chart.events) k

  -- with the last event they are all
  pub races_below_all : (k : ℕ) → k ≡ length e.chart.events → races_below k ≡ races_of e
  races_below_all k same = below_all raced (length e.chart.events) k same

  -- and before that the first of all
  pub races_after : (k : ℕ) → k ≤ length e.chart.events → (rest : List (ℕ × ℕ)) × (races_of e ≡ races_below k ++ rest)
  races_after k le = of_rest raced (length e.chart.events) k le

  -- what the enforced order has not, of what is drawn, is a race
  pub each_is_race : IsEnforced e → (x : ℕ) → AreRacesOf e (races_from e x)
  unfolding is_raced
  each_is_race is x y z there =
      let p = to_parts raced x (length e.chart.events) y z there in
      let same : raced y z ≡ raced x z = ap (λ (n : ℕ). raced n z) p.0 in
      let both = and_parts (before e.chart.events y z) (not (orders e.order y z)) (rw same p.2) in
      (both.0, λ held. clash (is.enforced.complete y z held) (not-true (orders e.order y z) both.1))

  -- and its first event is that event
  pub each_is_from : (x : ℕ) → AreFrom x (races_from e x)
  each_is_from x y z there = (to_parts raced x (length e.chart.events) y z there).0

-- a race stands at each place of a list of races
pub race_at : (e : EnforcedChart) (pairs : List (ℕ × ℕ)) (i : ℕ) → i < length pairs → AreRacesOf e pairs
    → IsRace (wiring_of e) (get_or pairs i (0, 0)).0 (get_or pairs i (0, 0)).1
race_at e pairs i inside are =
    are (get_or pairs i (0, 0)).0 (get_or pairs i (0, 0)).1 (i, slice_get-get_or pairs i (0, 0) inside)

-- both of its events are events of the chart
pub race_events : (e : EnforcedChart) (x y : ℕ) → IsRace (wiring_of e) x y → (x < length e.chart.events) × (y < length e.chart.events)
race_events e x y race = let both = before_parts e.chart.events x y race.0 in (both.0, both.1)

-- where all are races of one event, it is the first of each
pub first_at : (x : ℕ) (pairs : List (ℕ × ℕ)) (i : ℕ) → i < length pairs → AreFrom x pairs → (get_or pairs i (0, 0)).0 ≡ x
first_at x pairs i inside are =
    are (get_or pairs i (0, 0)).0 (get_or pairs i (0, 0)).1 (i, slice_get-get_or pairs i (0, 0) inside)

-- What is said of a chart under an architecture.
use Rattle.std.specs.Prelude.{◌≡◌, ℕ, List, length}
use Rattle.msc_chart.specs.Lists.{pairs_to, Occurs}
use Rattle.msc_chart.specs.Orders.{WiredChart, wired, IsRace}
use Rattle.msc_race.specs.Races.{all_races, is_raced}
use Rattle.msc_race.specs.Wired.{EnforcedChart, IsEnforced}

-- the chart and the queues of its messages
abbrev pub wiring_of : EnforcedChart → WiredChart
wiring_of e = wired e.queues e.chart

-- all races, ascending
abbrev pub races_of : EnforcedChart → List (ℕ × ℕ)
races_of e = all_races e.chart.events e.order

-- the races whose first event is x, ascending
abbrev pub races_from : EnforcedChart → ℕ → List (ℕ × ℕ)
races_from e x = pairs_to (is_raced e.chart.events e.order) x (length e.chart.events)

-- each pair of the list is a race
abbrev pub AreRacesOf : EnforcedChart → List (ℕ × ℕ) → Type 0
AreRacesOf e pairs = (x y : ℕ) → Occurs pairs (x, y) → IsRace (wiring_of e) x y

-- x is the first event of each pair of the list
abbrev pub AreFrom : ℕ → List (ℕ × ℕ) → Type 0
AreFrom x pairs = (y z : ℕ) → Occurs pairs (y, z) → y ≡ x

-- the order is the enforced one
abbrev pub HasEnforcedOrder : EnforcedChart → Type 0
HasEnforcedOrder e = IsEnforced e

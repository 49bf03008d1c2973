-- Sticks between the first and the second of two rounds of a chart. Rounds are numbered from 0.
use Rattle.std.specs.Prelude.{◌≡◌, ◌↔◌, ℕ, ◌<◌, ◌≤◌, Bool, ◌&&◌, List, length, nat_eq, IsTrue}
use Rattle.msc_chart.specs.Charts.{line}
use Rattle.msc_chart.specs.Drawings.{Drawing}
use Rattle.msc_chart.specs.Lists.{pairs_of, pairs_to, Occurs}
use Rattle.msc_chart.specs.Orders.{WiredChart}
use Rattle.msc_chart.specs.Rounds.{round_of, two_rounds}
use Rattle.msc_ready.specs.Held.{ReadyChart, wiring_of, ready_in}
use Rattle.msc_ready.specs.BlockedPairs.{IsBlockedPair, is_blocked_pair}

-- whether x is of the first of two rounds of a chart, and y of the second
unfoldable pub crosses : Drawing → ℕ → ℕ → Bool
crosses d x y = nat_eq (round_of 2 d.events x) 0 && nat_eq (round_of 2 d.events y) 1

-- whether a pair is a blocked pair from the first round to the second
unfoldable pub is_between : ReadyChart → Drawing → ℕ → ℕ → Bool
is_between r d x y = crosses d x y && is_blocked_pair (wiring_of r) (ready_in r) r.order x y

-- all blocked pairs from the first round to the second, ascending
abbrev pub between_of : ReadyChart → Drawing → List (ℕ × ℕ)
between_of r d = pairs_of (is_between r d) (length r.chart.events)

-- those whose first event is x, ascending
abbrev pub between_from : ReadyChart → Drawing → ℕ → List (ℕ × ℕ)
between_from r d x = pairs_to (is_between r d) x (length r.chart.events)

-- (x, y) is a blocked pair from the first round to the second
pub record IsBetween (chart : WiredChart) (ready : ℕ → Bool) (d : Drawing) (x y : ℕ) : Type 0 where
  pub blocked_pair : IsBlockedPair chart ready x y
  pub first : round_of 2 d.events x ≡ 0
  pub second : round_of 2 d.events y ≡ 1

-- there is none
abbrev pub HasNoneBetween : WiredChart → (ℕ → Bool) → Drawing → Type 0
HasNoneBetween chart ready d = (x y : ℕ) → IsBetween chart ready d x y → ⊥

-- a pair of the list is a blocked pair from the first round to the second, and no other
abbrev pub AreBetween : ReadyChart → Drawing → List (ℕ × ℕ) → Type 0
AreBetween r d pairs = (x y : ℕ) → IsBetween (wiring_of r) (ready_in r) d x y ↔ Occurs pairs (x, y)

-- each pair of the list is such a blocked pair whose first event is e
abbrev pub AreBetweenFrom : ReadyChart → Drawing → ℕ → List (ℕ × ℕ) → Type 0
AreBetweenFrom r d e pairs =
    (x y : ℕ) → Occurs pairs (x, y) → (x ≡ e) × IsBetween (wiring_of r) (ready_in r) d x y

-- on the line of x the events from this number on are those of the second round
abbrev pub BeginsSecond : Drawing → ℕ → ℕ → Type 0
BeginsSecond d x start =
    (y : ℕ) → y < length (two_rounds d).events → line (two_rounds d).events y ≡ line (two_rounds d).events x
    → (start ≤ y) ↔ (round_of 2 d.events y ≡ 1)

-- the events from start up to end are those with which x may make such a blocked pair: each that
-- does is among them, and of these the test for blocked pairs tells which do
pub record AreSeconds (r : ReadyChart) (d : Drawing) (x start end : ℕ) : Type 0 where
  pub ordered : start ≤ end
  pub within : end ≤ length r.chart.events
  pub all : (y : ℕ) → IsTrue (is_between r d x y) → (start ≤ y) × (y < end)
  pub told : (y : ℕ) → start ≤ y → y < end → is_between r d x y ≡ is_blocked_pair (wiring_of r) (ready_in r) r.order x y

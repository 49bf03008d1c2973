-- What is said of the blocked pairs of a chart under an architecture.
use Rattle.std.specs.Prelude.{◌≡◌, ℕ, ◌<◌, ◌⊎◌, List, Option, None, MatchOption, length, get_or, ◌↔◌}
use Rattle.msc_chart.specs.Lists.{pairs_of, pairs_to, Occurs, IsLeast}
use Rattle.msc_ready.specs.Held.{ReadyChart, wiring_of, ready_in}
use Rattle.msc_ready.specs.BlockedPairs.{IsAhead, IsLeastAhead, IsBlockedPair, is_blocked_pair}

-- all blocked pairs, ascending
abbrev pub blocked_pairs_of : ReadyChart → List (ℕ × ℕ)
blocked_pairs_of r = pairs_of (is_blocked_pair (wiring_of r) (ready_in r) r.order) (length r.chart.events)

-- the blocked pairs whose first event is e, ascending
abbrev pub blocked_pairs_from : ReadyChart → ℕ → List (ℕ × ℕ)
blocked_pairs_from r e = pairs_to (is_blocked_pair (wiring_of r) (ready_in r) r.order) e (length r.chart.events)

-- a pair of the list is a blocked pair, and no other
abbrev pub AreBlockedPairs : ReadyChart → List (ℕ × ℕ) → Type 0
AreBlockedPairs r pairs = (e f : ℕ) → IsBlockedPair (wiring_of r) (ready_in r) e f ↔ Occurs pairs (e, f)

-- each pair of the list is a blocked pair whose first event is e
abbrev pub AreBlockedPairsFrom : ReadyChart → ℕ → List (ℕ × ℕ) → Type 0
AreBlockedPairsFrom r e pairs =
    (x y : ℕ) → Occurs pairs (x, y) → (x ≡ e) × IsBlockedPair (wiring_of r) (ready_in r) x y

-- g is the least event that is the first of a blocked pair with h, or the number of events where
-- none is
abbrev pub IsLeastFirst : ReadyChart → ℕ → ℕ → Type 0
IsLeastFirst r h g =
    IsLeast (λ x. IsBlockedPair (wiring_of r) (ready_in r) x h) g
    ⊎ ((g ≡ length r.chart.events) × ((x : ℕ) → IsBlockedPair (wiring_of r) (ready_in r) x h → ⊥))

-- of each event so
abbrev pub AreLeastFirsts : ReadyChart → List ℕ → ℕ → Type 0
AreLeastFirsts r firsts k = (h : ℕ) → h < k → IsLeastFirst r h (get_or firsts h 0)

-- and for all events of the chart
pub record HasLeastFirsts (r : ReadyChart) (firsts : List ℕ) : Type 0 where
  pub each : length firsts ≡ length r.chart.events
  pub least : AreLeastFirsts r firsts (length r.chart.events)

-- of event f the least blocked pair that is ahead of it, if there is one
abbrev pub IsAheadOf : ReadyChart → ℕ → Option (ℕ × ℕ) → Type 0
IsAheadOf r f ahead =
    MatchOption ahead ((p : ℕ × ℕ) → IsAhead (wiring_of r) (ready_in r) f p → ⊥) (IsLeastAhead (wiring_of r) (ready_in r) f)

-- of each event below k so
abbrev pub AreAhead : ReadyChart → List (Option (ℕ × ℕ)) → ℕ → Type 0
AreAhead r all k = (f : ℕ) → f < k → IsAheadOf r f (get_or all f None)

-- of all events of the chart so
pub record HasAhead (r : ReadyChart) (all : List (Option (ℕ × ℕ))) : Type 0 where
  pub each : length all ≡ length r.chart.events
  pub ahead : AreAhead r all (length r.chart.events)

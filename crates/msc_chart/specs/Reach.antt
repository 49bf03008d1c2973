-- What the search for an event that precedes itself keeps: of each line the least segment that was
-- reached from e. All that is drawn below it is reached.
use Rattle.std.specs.Prelude.{◌≡◌, ℕ, ◌<◌, ◌≤◌, ◌⊎◌, IsTrue, List, length, get_or}
use Rattle.msc_chart.specs.declared.event.ChartEvent.{ChartEvent}
use Rattle.msc_chart.specs.Charts.{at, sends, Visual}

-- s is drawn below what is reached on its line
abbrev pub IsBelow : List ChartEvent → List ℕ → ℕ → Type 0
IsBelow events low s = get_or low (at events s).line 0 < (at events s).segment

-- s is an output, and it is e or is reached
pub record IsPassed (events : List ChartEvent) (e : ℕ) (low : List ℕ) (s : ℕ) : Type 0 where
  pub output : IsTrue (sends (at events s).kind)
  pub reached : (s ≡ e) ⊎ IsBelow events low s

-- what is taken as reached is reached
pub record AreReached (events : List ChartEvent) (e : ℕ) (low : List ℕ) : Type 0 where
  pub begun : get_or low (at events e).line 0 ≤ (at events e).segment
  pub reached : (y : ℕ) → y < length events → IsBelow events low y → Visual events e y

-- the input of s, where s is passed, is not above what is reached on its line
abbrev pub IsClosedAt : List ChartEvent → ℕ → List ℕ → ℕ → Type 0
IsClosedAt events e low s =
    IsPassed events e low s
    → get_or low (at events (at events s).partner).line 0 ≤ (at events (at events s).partner).segment

-- and so for each event below k
abbrev pub AreClosedBelow : List ChartEvent → ℕ → List ℕ → ℕ → Type 0
AreClosedBelow events e low k = (s : ℕ) → s < k → IsClosedAt events e low s

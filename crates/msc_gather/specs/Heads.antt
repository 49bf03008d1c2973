-- Which event may follow, told by the first event that is left in its log and by one link.
use Rattle.std.specs.Prelude.{◌≡◌, ℕ, ◌<◌, ◌≤◌, false, List, length, get_or, ◌⊎◌, IsTrue, Option, Some, None}
use Rattle.msc_chart.specs.Orders.{WiredChart}
use Rattle.msc_chart.specs.Lists.{occurs}
use Rattle.msc_gather.specs.Schedule.{crosses}

-- the last of what crosses to an event: all else that does crosses to that one too
abbrev pub IsLink : WiredChart → List (List ℕ) → ℕ → Option ℕ → Type 0
IsLink chart logs x None = (y : ℕ) → IsTrue (crosses chart logs y x) → ⊥
IsLink chart logs x (Some y) =
    IsTrue (crosses chart logs y x)
    × ((z : ℕ) → IsTrue (crosses chart logs z x) → (z ≡ y) ⊎ IsTrue (crosses chart logs z y))

-- a link that is there is among these events
abbrev pub IsLinkBehind : List ℕ → Option ℕ → Type 0
IsLinkBehind past None = Unit {0}
IsLinkBehind past (Some y) = IsTrue (occurs past y)

-- the first k events of a log are among these events, and no other of that log
pub record IsLogFront (past log : List ℕ) (k : ℕ) : Type 0 where
  pub within : k ≤ length log
  pub gone : (j : ℕ) → j < k → IsTrue (occurs past (get_or log j 0))
  pub left : (j : ℕ) → k ≤ j → j < length log → occurs past (get_or log j 0) ≡ false

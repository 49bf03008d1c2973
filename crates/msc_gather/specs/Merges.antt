-- A part of the least run of the logs, made by heads and links.
use Rattle.std.specs.Prelude.{◌≡◌, ℕ, ◌<◌, ◌≤◌, Bool, false, List, [], length, get_or, Option, Some, None}
use Rattle.msc_chart.specs.Charts.{line}
use Rattle.msc_chart.specs.Lists.{occurs, Steps}
use Rattle.msc_chart.specs.Orders.{WiredChart}
use Rattle.msc_gather.specs.Schedule.{MayFollow, FollowsLeast}
use Rattle.msc_gather.specs.Heads.{IsLogFront}

-- these events are the least that may follow one another; for each log so many of its events are
-- among them, the first; and for each event it is told whether it is
pub record IsMerging (chart : WiredChart) (logs : List (List ℕ)) (past heads : List ℕ)
    (done : List Bool) : Type 0 where
  pub steps : Steps (FollowsLeast chart logs) [] past
  pub many : length heads ≡ length logs
  pub fronts : (i : ℕ) → i < length logs → IsLogFront past (get_or logs i []) (get_or heads i 0)
  pub long : length done ≡ length chart.events
  pub told : (e : ℕ) → e < length chart.events → get_or done e false ≡ occurs past e

-- the event may follow, and is on this line
abbrev pub MayFollowOn : WiredChart → List (List ℕ) → List ℕ → ℕ → ℕ → Type 0
MayFollowOn chart logs past i x = MayFollow chart logs past x × (line chart.events x ≡ i)

-- there is a number, and it is at most x
abbrev pub IsUpTo : Option ℕ → ℕ → Type 0
IsUpTo None x = ⊥
IsUpTo (Some y) x = y ≤ x

-- the least event that may follow on the first n lines, or none where none may
pub record IsBest (chart : WiredChart) (logs : List (List ℕ)) (past : List ℕ) (n : ℕ)
    (best : Option ℕ) : Type 0 where
  pub itself : (x : ℕ) → best ≡ Some x → MayFollow chart logs past x
  pub least : (x : ℕ) → MayFollow chart logs past x → line chart.events x < n → IsUpTo best x

-- What was taken from the queues in the order of a list, and the links of events.
use Rattle.std.specs.Prelude.{◌≡◌, ℕ, ◌<◌, ◌⊎◌, false, List, length, get_or, IsTrue, Option, Some, None}
use Rattle.msc_chart.specs.Lists.{occurs, until}
use Rattle.msc_chart.specs.Charts.{partner, is_output, is_input, is_local}
use Rattle.msc_chart.specs.Orders.{WiredChart, queue}
use Rattle.msc_gather.specs.Heads.{IsLink}

-- the output of the last input of a queue in a list, or none where the list has no input of the queue
abbrev pub IsLastTaken : WiredChart → ℕ → List ℕ → Option ℕ → Type 0
IsLastTaken chart q list None =
    (r : ℕ) → IsTrue (occurs list r) → IsTrue (is_input chart.events r) → queue chart r ≡ q → ⊥
IsLastTaken chart q list (Some s) =
    (r : ℕ) × IsTrue (occurs list r) × IsTrue (is_input chart.events r) × (queue chart r ≡ q)
    × (partner chart.events r ≡ s)
    × ((t : ℕ) → IsTrue (occurs list t) → IsTrue (is_input chart.events t) → queue chart t ≡ q
    → (t ≡ r) ⊎ IsTrue (occurs (until list r) t))

-- what was last taken from each queue in the list, and for each output whose input is in the list,
-- what was taken from its queue before it
pub record HoldsTaken (chart : WiredChart) (list : List ℕ) (before last : List (Option ℕ)) : Type 0
  where
    pub long : length before ≡ length chart.events
    pub queues : (e : ℕ) → e < length chart.events → is_local chart.events e ≡ false
        → queue chart e < length last
    pub ends : (q : ℕ) → q < length last → IsLastTaken chart q list (get_or last q None)
    pub own : (s : ℕ) → IsTrue (is_output chart.events s)
        → IsTrue (occurs list (partner chart.events s))
        → IsLastTaken chart (queue chart s) (until list (partner chart.events s))
        (get_or before s None)

-- a link for each event
pub record AreLinks (chart : WiredChart) (logs : List (List ℕ)) (links : List (Option ℕ)) : Type 0
  where
    pub long : length links ≡ length chart.events
    pub each : (e : ℕ) → e < length chart.events → IsLink chart logs e (get_or links e None)

-- Runs that are as drawn, and the rings of steps that rule them out.
use Rattle.std.specs.Prelude.{ℕ, ◌<◌, ◌≤◌, List, [], length, slice_index, IsTrue}
use Rattle.msc_chart.specs.Lists.{occurs, IsLeast, Steps}
use Rattle.msc_chart.specs.Orders.{WiredChart}
use Rattle.msc_chart.specs.Runs.{Run, MayCome, IsWhole, KeepsDrawnOrder}
use Rattle.msc_follow.specs.Steps.{leads}
use Rattle.msc_follow.specs.declared.following.Followed.{Followed}
use Rattle.msc_follow.specs.declared.following.Followed.TheVariants.{Follows, Never}
use Rattle.rings.specs.Rings.{IsRing, IsLeastRing, HasNoRing}

-- a whole run that keeps the drawn order
pub record IsAsDrawn (chart : WiredChart) (events : List ℕ) : Type 0 where
  pub run : Run chart events
  pub whole : IsWhole chart events
  pub keeps : KeepsDrawnOrder chart events

-- the drawing can happen: some whole run keeps the drawn order
abbrev pub CanHappen : WiredChart → Type 0
CanHappen chart = (events : List ℕ) × IsAsDrawn chart events

-- it never does: no whole run keeps the drawn order
abbrev pub NeverHappens : WiredChart → Type 0
NeverHappens chart = (events : List ℕ) → IsAsDrawn chart events → ⊥

-- after these events x may come next, and no step leads to it from an event that has not come yet
pub record MayFollow (chart : WiredChart) (past : List ℕ) (x : ℕ) : Type 0 where
  pub may : MayCome chart past x
  pub awaited : (y : ℕ) → IsTrue (leads chart y x) → IsTrue (occurs past y)

-- the following run: a whole run that keeps the drawn order, each event of which is the least that may
-- follow those before it
pub record IsFollowingRun (chart : WiredChart) (events : List ℕ) : Type 0 where
  pub drawn : IsAsDrawn chart events
  pub least : Steps (λ past. IsLeast (MayFollow chart past)) [] events

-- a ring of steps: different events, at least two, and a step from each to the next and from the last
-- to the first
pub record IsStepRing (chart : WiredChart) (ring : List ℕ) : Type 0 where
  pub is_ring : IsRing (leads chart) (length chart.events) (slice_index ring 0) ring
  pub several : 2 ≤ length ring

-- It goes through the least event that is on a ring, and is the least of the shortest through it.
pub record IsLeastStepRing (chart : WiredChart) (ring : List ℕ) : Type 0 where
  pub is_ring : IsStepRing chart ring
  pub first : (e : ℕ) → e < slice_index ring 0 → HasNoRing (leads chart) (length chart.events) e
  pub least : IsLeastRing (leads chart) (length chart.events) (slice_index ring 0) ring

-- whether the drawing can happen: the following run if it can, else a ring
abbrev pub IsFollowed : WiredChart → Followed → Type 0
IsFollowed chart (Follows run) = IsFollowingRun chart run.items
IsFollowed chart (Never ring) = IsLeastStepRing chart ring.items × NeverHappens chart

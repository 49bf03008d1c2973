-- The run that is chosen to show that an order is not enforced.
use Rattle.std.specs.Prelude.{◌≡◌, ◌≢◌, ℕ, ◌<◌, false, List, [], length, ◌⊎◌, IsTrue}
use Rattle.msc_chart.specs.Charts.{partner, is_output}
use Rattle.msc_chart.specs.Orders.{WiredChart, queue, Enforced}
use Rattle.msc_chart.specs.Lists.{occurs, IsLeast, Steps}
use Rattle.msc_chart.specs.Runs.{MayCome, IsWhole}

-- an event other than e that is not enforced after e
abbrev pub IsFree : WiredChart → ℕ → ℕ → Type 0
IsFree chart e x = (x < length chart.events) × (x ≢ e) × (Enforced chart e x → ⊥)

-- a free output whose input is not free
abbrev pub IsHeld : WiredChart → ℕ → ℕ → Type 0
IsHeld chart e s = IsTrue (is_output chart.events s) × IsFree chart e s × (IsFree chart e (partner chart.events s) → ⊥)

-- a free output whose input is free
abbrev pub IsPassedOn : WiredChart → ℕ → ℕ → Type 0
IsPassedOn chart e s = IsTrue (is_output chart.events s) × IsFree chart e s × IsFree chart e (partner chart.events s)

-- a held output waits while an output of its queue that is passed on has not occurred
abbrev pub Waits : WiredChart → ℕ → List ℕ → ℕ → Type 0
Waits chart e past s =
    IsHeld chart e s × ((t : ℕ) × IsPassedOn chart e t × (queue chart t ≡ queue chart s) × (occurs past t ≡ false))

-- a free event that may come next and does not wait
pub record MayComeFree (chart : WiredChart) (e : ℕ) (past : List ℕ) (x : ℕ) : Type 0 where
  pub may : MayCome chart past x
  pub free : IsFree chart e x
  pub ready : Waits chart e past x → ⊥

-- a free event has not occurred yet
abbrev pub SomeFreeLeft : WiredChart → ℕ → List ℕ → Type 0
SomeFreeLeft chart e past = (x : ℕ) × IsFree chart e x × (occurs past x ≡ false)

-- while free events are left, the least of them that may come next and does not wait; then the
-- least event that may come next
abbrev pub IsWitnessNext : WiredChart → ℕ → List ℕ → ℕ → Type 0
IsWitnessNext chart e past x =
    (SomeFreeLeft chart e past × IsLeast (MayComeFree chart e past) x)
    ⊎ ((SomeFreeLeft chart e past → ⊥) × IsLeast (MayCome chart past) x)

-- the witness of e: a whole run in which each event is the one that comes next so
abbrev pub IsWitness : WiredChart → ℕ → List ℕ → Type 0
IsWitness chart e events = Steps (IsWitnessNext chart e) [] events × IsWhole chart events

-- The short witness of two events: it ends with the second, and does not have the first.
use Rattle.std.specs.Prelude.{◌≡◌, ℕ, ◌≤◌, ◌⊎◌, ◌↔◌, false, List, [], ◌∷◌, ◌++◌, length, IsTrue}
use Rattle.msc_chart.specs.Lists.{occurs, until, IsLeast, Steps}
use Rattle.msc_chart.specs.Charts.{partner, is_output}
use Rattle.msc_chart.specs.Orders.{WiredChart, queue, Enforced}
use Rattle.msc_chart.specs.Runs.{Run, MayCome}
use Rattle.msc_chart.specs.Witness.{IsWitness}
use Rattle.msc_race.specs.Reversals.{ComesFirst}

-- x is of the past of f: it is f, or enforced before f
abbrev pub IsNeeded : WiredChart → ℕ → ℕ → Type 0
IsNeeded chart f x = (x ≡ f) ⊎ Enforced chart x f

-- a held output: an output of the past of f whose input is not
abbrev pub IsHeldFor : WiredChart → ℕ → ℕ → Type 0
IsHeldFor chart f s = IsTrue (is_output chart.events s) × IsNeeded chart f s × (IsNeeded chart f (partner chart.events s) → ⊥)

-- an output of the past of f whose input is of it too
abbrev pub IsTakenFor : WiredChart → ℕ → ℕ → Type 0
IsTakenFor chart f t = IsTrue (is_output chart.events t) × IsNeeded chart f t × IsNeeded chart f (partner chart.events t)

-- a held output waits while such an output of its queue has not come
abbrev pub WaitsFor : WiredChart → ℕ → List ℕ → ℕ → Type 0
WaitsFor chart f past s =
    IsHeldFor chart f s × ((t : ℕ) × IsTakenFor chart f t × (queue chart t ≡ queue chart s) × (occurs past t ≡ false))

-- an event of the past of f that may come next and does not wait
pub record MayComeFor (chart : WiredChart) (f : ℕ) (past : List ℕ) (x : ℕ) : Type 0 where
  pub may : MayCome chart past x
  pub needed : IsNeeded chart f x
  pub ready : WaitsFor chart f past x → ⊥

-- the least of these
abbrev pub IsShortNext : WiredChart → ℕ → List ℕ → ℕ → Type 0
IsShortNext chart f past x = IsLeast (MayComeFor chart f past) x

-- all of the past of f is in the list
abbrev pub HasNeeded : WiredChart → ℕ → List ℕ → Type 0
HasNeeded chart f events = (x : ℕ) → IsNeeded chart f x → IsTrue (occurs events x)

-- each event is the one that comes next so, and all of the past of f comes
abbrev pub IsNeededRun : WiredChart → ℕ → List ℕ → Type 0
IsNeededRun chart f events = Steps (IsShortNext chart f) [] events × HasNeeded chart f events

-- the past of f does not all come so
abbrev pub HasNoNeededRun : WiredChart → ℕ → Type 0
HasNoNeededRun chart f = (events : List ℕ) → IsNeededRun chart f events → ⊥

-- the witness of e, up to f and with it
abbrev pub IsWitnessUpTo : WiredChart → ℕ → ℕ → List ℕ → Type 0
IsWitnessUpTo chart e f events = (run : List ℕ) × IsWitness chart e run × (events ≡ until run f ++ f ∷ [])

-- The short witness of e and f: the past of f as it comes so, where it all comes, and else the
-- witness of e up to f.
abbrev pub IsShortWitness : WiredChart → ℕ → ℕ → List ℕ → Type 0
IsShortWitness chart e f events =
    IsNeededRun chart f events ⊎ (HasNoNeededRun chart f × IsWitnessUpTo chart e f events)

-- a run whose last event is f, which has f once and does not have e
pub record ShowsWithout (chart : WiredChart) (e f : ℕ) (events : List ℕ) : Type 0 where
  pub run : Run chart events
  pub last : events ≡ until events f ++ f ∷ []
  pub without : occurs events e ≡ false

-- the list has the past of f and nothing else, and no run that has f has fewer events
pub record IsLeastRun (chart : WiredChart) (f : ℕ) (events : List ℕ) : Type 0 where
  pub exactly : (x : ℕ) → IsTrue (occurs events x) ↔ IsNeeded chart f x
  pub fewest : (other : List ℕ) → Run chart other → IsTrue (occurs other f) → length events ≤ length other

-- The short witness of e and f, and what it shows: it is a run, f is its last event, and e is not
-- in it. It has the past of f and nothing else, where that can be, and then no run that has f is
-- shorter.
pub record IsShortAnswer (chart : WiredChart) (e f : ℕ) (events : List ℕ) : Type 0 where
  pub short : IsShortWitness chart e f events
  pub shows : ShowsWithout chart e f events
  pub least : IsLeastRun chart f events ⊎ IsWitnessUpTo chart e f events
  pub apart : ComesFirst chart e f → ⊥

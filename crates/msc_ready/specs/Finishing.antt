-- What has to come before what in a whole ready run.
use Rattle.std.specs.Prelude.{◌≡◌, ℕ, Bool, false, List, [], IsTrue}
use Rattle.msc_chart.specs.Lists.{occurs, IsLeast, Steps}
use Rattle.msc_chart.specs.Charts.{line, partner, is_input, before}
use Rattle.msc_chart.specs.Orders.{WiredChart, queue}
use Rattle.msc_chart.specs.Precedence.{Precedes}
use Rattle.msc_chart.specs.Runs.{IsWhole}
use Rattle.msc_ready.specs.Readiness.{MayComeReady, ReadyRun}

-- the whole order: the least transitive relation that holds what precedes what without the rule of
-- queues, and, of two inputs of one queue that are drawn in an order on a ready line, their outputs in
-- that order
pub data WholeOrder (chart : WiredChart) (ready : ℕ → Bool) : ℕ → ℕ → Type 0 where
  needed : {x y : ℕ} → Precedes chart ready false x y → WholeOrder chart ready x y
  in_turn : (r u : ℕ) {s t : ℕ} → IsTrue (is_input chart.events r) → IsTrue (is_input chart.events u)
      → queue chart r ≡ queue chart u → IsTrue (before chart.events r u) → IsTrue (ready (line chart.events u))
      → partner chart.events r ≡ s → partner chart.events u ≡ t → WholeOrder chart ready s t
  joined : {x y z : ℕ} → WholeOrder chart ready x y → WholeOrder chart ready y z → WholeOrder chart ready x z

-- no ring leads along it: nothing would have to come before itself
abbrev pub HasNoWholeRing : WiredChart → (ℕ → Bool) → Type 0
HasNoWholeRing chart ready = (e : ℕ) → WholeOrder chart ready e e → ⊥

-- a whole ready run
abbrev pub IsWholeReadyRun : WiredChart → (ℕ → Bool) → List ℕ → Type 0
IsWholeReadyRun chart ready events = ReadyRun chart ready events × IsWhole chart events

-- some ready run is whole
abbrev pub MayFinish : WiredChart → (ℕ → Bool) → Type 0
MayFinish chart ready = (events : List ℕ) × IsWholeReadyRun chart ready events

-- x is in turn: where it is the output of an input u of a ready line, the output of each input of the
-- queue of u that is drawn before u has occurred
abbrev pub IsInTurn : WiredChart → (ℕ → Bool) → List ℕ → ℕ → Type 0
IsInTurn chart ready past x =
    (r u : ℕ) → IsTrue (is_input chart.events r) → IsTrue (is_input chart.events u)
    → queue chart r ≡ queue chart u → IsTrue (before chart.events r u)
    → IsTrue (ready (line chart.events u)) → partner chart.events u ≡ x
    → IsTrue (occurs past (partner chart.events r))

-- x may come next, and is in turn
pub record MayComeInTurn (chart : WiredChart) (ready : ℕ → Bool) (past : List ℕ) (x : ℕ) : Type 0 where
  pub may : MayComeReady chart ready past x
  pub turn : IsInTurn chart ready past x

-- the finishing run: each event is the least that may come next in turn, and after it none may
pub record IsFinishingRun (chart : WiredChart) (ready : ℕ → Bool) (events : List ℕ) : Type 0 where
  pub least : Steps (λ past. IsLeast (MayComeInTurn chart ready past)) [] events
  pub none : (x : ℕ) → MayComeInTurn chart ready events x → ⊥

-- The order of which the enforced order and the visual order are cases. It depends on which lines are
-- ready, whose instances take a message only when all that is drawn before has happened, and on whether
-- the rule of queues holds. It is this project's own.
use Rattle.std.specs.Prelude.{◌≡◌, ◌↔◌, ℕ, Bool, true, false, IsTrue}
use Rattle.msc_chart.specs.Charts.{line, partner, is_output, is_input, is_controlled, before, Visual}
use Rattle.msc_chart.specs.Orders.{WiredChart, queue, Enforced}

-- every instance is ready
abbrev pub all_ready : ℕ → Bool
all_ready i = true

-- no instance is ready
abbrev pub none_ready : ℕ → Bool
none_ready i = false

-- the least relation closed under these rules, the last of them where `fifo` says so
pub data Precedes (chart : WiredChart) (ready : ℕ → Bool) (fifo : Bool) : ℕ → ℕ → Type 0 where
  -- what is drawn before a controlled event precedes it
  drawn : {x s : ℕ} → IsTrue (before chart.events x s) → IsTrue (is_controlled chart.events s)
      → Precedes chart ready fifo x s
  -- what is drawn before an input of a ready line precedes it
  awaited : {x r : ℕ} → IsTrue (before chart.events x r) → IsTrue (is_input chart.events r)
      → IsTrue (ready (line chart.events r)) → Precedes chart ready fifo x r
  -- an output precedes its input
  sent : {s r : ℕ} → IsTrue (is_output chart.events s) → partner chart.events s ≡ r → Precedes chart ready fifo s r
  -- transitivity
  joined : {x y z : ℕ} → Precedes chart ready fifo x y → Precedes chart ready fifo y z → Precedes chart ready fifo x z
  -- the rule of queues: where an output precedes another of its queue, so do their inputs, if their
  -- line is not ready
  queued : {s t r u : ℕ} → IsTrue fifo → IsTrue (is_output chart.events s) → IsTrue (is_output chart.events t)
      → queue chart s ≡ queue chart t → Precedes chart ready fifo s t
      → partner chart.events s ≡ r → partner chart.events t ≡ u
      → ready (line chart.events u) ≡ false → Precedes chart ready fifo r u

-- with no line ready it is the enforced order
abbrev pub NoneReadyIsEnforced : Type 0
NoneReadyIsEnforced =
    (chart : WiredChart) (x y : ℕ) → Precedes chart none_ready true x y ↔ Enforced chart x y

-- with all lines ready it is the visual order; then the rule of queues adds nothing
abbrev pub AllReadyIsVisual : Type 0
AllReadyIsVisual =
    (chart : WiredChart) (fifo : Bool) (x y : ℕ) → Precedes chart all_ready fifo x y ↔ Visual chart.events x y

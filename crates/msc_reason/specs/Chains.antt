-- Why an event is enforced before another: a chain of steps, or the rule of queues once between
-- two.
use Rattle.std.specs.Prelude.{◌≡◌, ◌≢◌, ℕ, List, [], ◌∷◌, IsTrue}
use Rattle.msc_chart.specs.declared.event.ChartEvent.{ChartEvent}
use Rattle.msc_chart.specs.Charts.{partner, is_output, is_controlled, before}
use Rattle.msc_chart.specs.Orders.{WiredChart}
use Rattle.msc_reason.specs.declared.why.Why.{Why}
use Rattle.msc_reason.specs.declared.why.Why.TheVariants.{Straight, ByQueue}
use Rattle.msc_reason.specs.Causes.{share_queue}

-- a step of the enforced order that a line or a message makes: to a controlled event that is drawn
-- below, or from an output to its input
pub data Step (events : List ChartEvent) : ℕ → ℕ → Type 0 where
  below : {x y : ℕ} → IsTrue (before events x y) → IsTrue (is_controlled events y) → Step events x y
  over : {s r : ℕ} → IsTrue (is_output events s) → partner events s ≡ r → Step events s r

-- the list leads from x to y, event by event, each a step after the one before it
abbrev pub LeadsTo : List ChartEvent → ℕ → List ℕ → ℕ → Type 0
LeadsTo events x [] y = x ≡ y
LeadsTo events x (z ∷ zs) y = Step events x z × LeadsTo events z zs y

-- a chain from x to y: one step or more
abbrev pub IsChain : List ChartEvent → ℕ → List ℕ → ℕ → Type 0
IsChain events x steps y = (steps ≢ []) × LeadsTo events x steps y

-- e and u are inputs of one queue, a chain leads from the output of e to that of u, and from u the
-- rest leads on to f, which may be u itself
pub record IsByQueue (chart : WiredChart) (e f u : ℕ) (outputs onward : List ℕ) : Type 0 where
  pub mates : IsTrue (share_queue chart e u)
  pub chain : IsChain chart.events (partner chart.events e) outputs (partner chart.events u)
  pub rest : LeadsTo chart.events u onward f

-- what shows that e is enforced before f
abbrev pub IsWhy : WiredChart → ℕ → ℕ → Why → Type 0
IsWhy chart e f (Straight steps) = IsChain chart.events e steps f
IsWhy chart e f (ByQueue u outputs onward) = IsByQueue chart e f u outputs onward

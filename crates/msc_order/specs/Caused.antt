-- The orders that a chart's lines and messages give without the rule of queues.
use Rattle.std.specs.Prelude.{◌≡◌, ℕ, Bool, false, ◌||◌, ◌⊎◌, List, IsTrue}
use Rattle.msc_chart.specs.declared.event.ChartEvent.{ChartEvent}
use Rattle.msc_chart.specs.Charts.{partner, is_output, is_input, is_controlled, before}
use Rattle.msc_chart.specs.Orders.{WiredChart, queue}

-- The least transitive relation that puts each output before its input, and what is drawn before an
-- event before it: where `inputs` says so before each event, otherwise before each controlled one.
pub data Led (events : List ChartEvent) (inputs : Bool) : ℕ → ℕ → Type 0 where
  led : {x y : ℕ} → IsTrue (before events x y) → IsTrue (inputs || is_controlled events y) → Led events inputs x y
  carried : {s r : ℕ} → IsTrue (is_output events s) → partner events s ≡ r → Led events inputs s r
  chained : {x y z : ℕ} → Led events inputs x y → Led events inputs y z → Led events inputs x z

-- the order that lines and messages enforce: the enforced order without the rule of queues
abbrev pub Caused : List ChartEvent → ℕ → ℕ → Type 0
Caused events = Led events false

-- y is x or caused after it
abbrev pub IsFollowedBy : List ChartEvent → ℕ → ℕ → Type 0
IsFollowedBy events x y = (x ≡ y) ⊎ Caused events x y

-- two inputs of one queue whose outputs are caused in an order
pub record InQueueOrder (chart : WiredChart) (r u : ℕ) : Type 0 where
  pub first : IsTrue (is_input chart.events r)
  pub second : IsTrue (is_input chart.events u)
  pub one_queue : queue chart r ≡ queue chart u
  pub outputs : Caused chart.events (partner chart.events r) (partner chart.events u)

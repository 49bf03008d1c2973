-- How a chain is found: by links, from an event to a controlled one below it that leads on.
use Rattle.std.specs.Prelude.{◌≡◌, ℕ, ◌⊎◌, IsTrue}
use Rattle.msc_chart.specs.Charts.{is_controlled, before}
use Rattle.msc_chart.specs.Orders.{WiredChart, Enforced}
use Rattle.msc_order.specs.Caused.{InQueueOrder, IsFollowedBy}

-- z is controlled, and it is y or enforced before y
pub record Reaches (chart : WiredChart) (y z : ℕ) : Type 0 where
  pub controlled : IsTrue (is_controlled chart.events z)
  pub onward : (z ≡ y) ⊎ Enforced chart z y

-- z is drawn below x, and reaches y
abbrev pub IsNextStep : WiredChart → ℕ → ℕ → ℕ → Type 0
IsNextStep chart x y z = IsTrue (before chart.events x z) × Reaches chart y z

-- no event is a link from x to y
abbrev pub HasNoLink : WiredChart → ℕ → ℕ → Type 0
HasNoLink chart x y = (z : ℕ) → IsNextStep chart x y z → ⊥

-- input e comes before u by the rule of queues, and f is u or caused after it
abbrev pub IsMate : WiredChart → ℕ → ℕ → ℕ → Type 0
IsMate chart e f u = InQueueOrder chart e u × IsFollowedBy chart.events u f

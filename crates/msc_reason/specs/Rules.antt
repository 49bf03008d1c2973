-- Which of the reasons why an event is enforced before another is given: the rule is our own.
use Rattle.std.specs.Prelude.{◌≡◌, ◌⊎◌, ℕ, ◌<◌, List, [], ◌∷◌}
use Rattle.msc_chart.specs.Charts.{partner}
use Rattle.msc_chart.specs.Orders.{WiredChart}
use Rattle.msc_order.specs.Caused.{Caused}
use Rattle.msc_reason.specs.declared.why.Why.{Why}
use Rattle.msc_reason.specs.declared.why.Why.TheVariants.{Straight, ByQueue}
use Rattle.msc_reason.specs.Chains.{IsWhy}
use Rattle.msc_reason.specs.Links.{HasNoLink, IsNextStep, IsMate}

-- z is the last event that is a link from x to y
abbrev pub IsLastLink : WiredChart → ℕ → ℕ → ℕ → Type 0
IsLastLink chart x y z =
    IsNextStep chart x y z × ((w : ℕ) → z < w → IsNextStep chart x y w → ⊥)

-- the step from x on the way to y goes to the last link, and where there is none over the message
abbrev pub IsChosenStep : WiredChart → ℕ → ℕ → ℕ → Type 0
IsChosenStep chart x y z =
    IsLastLink chart x y z ⊎ (HasNoLink chart x y × (partner chart.events x ≡ z))

-- the list leads from x to z by such steps on the way to y
abbrev pub LeadsByRule : WiredChart → ℕ → ℕ → List ℕ → ℕ → Type 0
LeadsByRule chart y x [] z = x ≡ z
LeadsByRule chart y x (s ∷ steps) z = IsChosenStep chart x y s × LeadsByRule chart y s steps z

-- u is the first event that comes after e by the rule of queues and is f or leads to it
abbrev pub IsFirstMate : WiredChart → ℕ → ℕ → ℕ → Type 0
IsFirstMate chart e f u = IsMate chart e f u × ((w : ℕ) → w < u → IsMate chart e f w → ⊥)

-- The rule: a chain where there is one, otherwise the rule of queues at the first event that serves;
-- and each chain by the last links.
abbrev pub IsByRule : WiredChart → ℕ → ℕ → Why → Type 0
IsByRule chart e f (Straight steps) = LeadsByRule chart f e steps f
IsByRule chart e f (ByQueue u outputs onward) =
    (Caused chart.events e f → ⊥) × IsFirstMate chart e f u
    × LeadsByRule chart (partner chart.events u) (partner chart.events e) outputs (partner chart.events u)
    × LeadsByRule chart f u onward f

-- what shows that e is enforced before f, and is the one that the rule gives
abbrev pub IsChosenWhy : WiredChart → ℕ → ℕ → Why → Type 0
IsChosenWhy chart e f why = IsWhy chart e f why × IsByRule chart e f why

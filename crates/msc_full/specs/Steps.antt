-- The steps between events of a chart.
use Rattle.std.specs.Prelude.{ℕ, ◌<◌, ◌&&◌, cond, List, length, nat_eq}
use Rattle.std.specs.List.{All}
use Rattle.msc_chart.specs.Charts.{before, is_output, partner}
use Rattle.msc_chart.specs.Drawings.{Drawing}
use Rattle.msc_full.specs.declared.step.ShownStep.{ShownStep}
use Rattle.msc_full.specs.declared.step.StepOrder.{StepOrder}
use Rattle.msc_full.specs.declared.step.StepOrder.TheVariants.{Sent, Drawn, Queued}

-- both events of each step are events of the chart
abbrev pub AreStepsOf : Drawing → List (ℕ × ℕ) → Type 0
AreStepsOf d steps = All (λ p. (p.0 < length d.events) × (p.1 < length d.events)) steps

-- why x has to come before y: y is the input of x, or it is drawn below x; otherwise x has to be ahead
-- of y in their queue
abbrev pub step_order : Drawing → ℕ → ℕ → StepOrder
step_order d x y =
    cond (is_output d.events x && nat_eq (partner d.events x) y) Sent (cond (before d.events x y) Drawn Queued)

abbrev pub chart_step : Drawing → ℕ × ℕ → ShownStep
chart_step d p = record { first = p.0; second = p.1; order = step_order d p.0 p.1 }

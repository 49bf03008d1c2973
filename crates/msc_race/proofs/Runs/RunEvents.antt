-- The events of a run are events of the chart.
use Rattle.std.proofs.Common.{ℕ, ◌<◌, List, [], ◌∷◌, ◌++◌, length, arith}
use Rattle.std.specs.List.{All}
use Rattle.std.proofs.lemmas.List.Elements.{All-cons}
use Rattle.msc_chart.specs.Lists.{Steps}
use Rattle.msc_chart.specs.Orders.{WiredChart}
use Rattle.msc_chart.specs.Runs.{Run, MayCome}

-- what may come is an event of the chart
steps_events : (chart : WiredChart) (past events : List ℕ) → Steps (MayCome chart) past events → All (λ e. e < length chart.events) events
steps_events chart past [] steps = λ k x within. absurd (omega (arith, within))
steps_events chart past (e ∷ es) steps =
    All-cons (λ e. e < length chart.events) e es steps.0.event (steps_events chart (past ++ e ∷ []) es steps.1)

-- so a run is of events of the chart
pub run_events : (chart : WiredChart) (events : List ℕ) → Run chart events → All (λ e. e < length chart.events) events
run_events chart events run = steps_events chart [] events run

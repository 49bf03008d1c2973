-- What is kept while a chart is built: which faults have been looked for, and what was found.
use Rattle.std.specs.Prelude.{◌≡◌, ℕ, ◌<◌, ◌≤◌, List, length, Option, MatchOption}
use Rattle.msc_parser.specs.Grammar.{Tree}
use Rattle.msc_chart.specs.declared.event.ChartEvent.{ChartEvent}
use Rattle.msc_chart.specs.declared.fault.ChartFault.{ChartFault}
use Rattle.msc_chart.specs.declared.fault.ChartFault.TheVariants.{Memory}
use Rattle.msc_chart.specs.Charts.{IsLinearOrder, Visual}
use Rattle.msc_chart.specs.Drawings.{Drawing, IsAccepted}
use Rattle.msc_chart.specs.Faults.{IsFirstFault, Stands, rank}
use Rattle.msc_chart.specs.Lists.{IsLeast}

-- the least place of such, where there is one
abbrev pub AnswersLeast : (ℕ → Type 0) → Option ℕ → Type 0
AnswersLeast P r = MatchOption r ((k : ℕ) → P k → ⊥) (IsLeast P)

-- no fault of a lower rank stands
abbrev pub IsClearBelow : Tree → ℕ → Type 0
IsClearBelow d k = (f : ChartFault) → Stands d f → k ≤ rank f

-- a refusal is the first fault, or want of memory
abbrev pub IsFirstOrMemory : Tree → ChartFault → Type 0
IsFirstOrMemory d f = (f ≡ Memory → ⊥) → IsFirstFault d f

-- the least event that precedes itself
pub record IsLeastCyclic (events : List ChartEvent) (e : ℕ) : Type 0 where
  pub within : e < length events
  pub precedes_itself : Visual events e e
  pub least : (d : ℕ) → d < e → Visual events d d → ⊥

-- a drawing is accepted, and a linear order of its events is kept with it
pub record IsBuilt (d : Drawing) (order : List ℕ) : Type 0 where
  pub accepted : IsAccepted d
  pub linear : IsLinearOrder d.events order

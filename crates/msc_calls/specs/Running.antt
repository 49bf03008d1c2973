-- What running a text answers.
use Rattle.std.specs.Prelude.{◌≡◌, ℕ, ◌<◌, Bool, List, length, Option, Result, Err}
use Rattle.std.specs.Io.KnownBytes.{Appends}
use Rattle.msc_chart.specs.declared.queue.Queues.{Queues}
use Rattle.msc_chart.specs.Drawings.{Drawing}
use Rattle.msc_report.specs.declared.fault.Fault.{Fault}
use Rattle.msc_report.specs.declared.fault.Fault.TheVariants.{NotStarted}
use Rattle.msc_source.specs.Texts.{IsChartOf}
use Rattle.msc_tool.specs.Running.{PrintsExecution}

-- What is printed of a text: an execution of its chart.
pub record PrintsTrace (text : List ℕ) (queues : Queues) (open' : Bool) (patience : ℕ)
    (finished : Bool) (printed : List ℕ) : Type 0 where
  pub chart : Drawing
  pub of_text : IsChartOf text chart
  pub shown : PrintsExecution chart queues open' patience finished printed

-- what is printed of the text went behind the known bytes of a writer
abbrev pub WritesTrace : List ℕ → Queues → Bool → ℕ → Bool → Option (List ℕ) → Option (List ℕ)
    → Type 0
WritesTrace text queues open' patience finished before after =
    (printed : List ℕ) × PrintsTrace text queues open' patience finished printed
    × Appends before after printed

-- i is the number of an instance of the text's chart
abbrev pub HasInstance : List ℕ → ℕ → Type 0
HasInstance text i = (chart : Drawing) × IsChartOf text chart × (i < length chart.instances)

-- an instance that could not be started is one of the text's chart
abbrev pub NamesAnInstance : {A : Type 0} → List ℕ → Result A Fault → Type 0
NamesAnInstance text answer = (i : ℕ) → answer ≡ Err (NotStarted i) → HasInstance text i

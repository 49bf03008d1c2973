-- How what keeps a chart from being run is answered.
use Rattle.std.proofs.Common.{◌≡◌, ◌≢◌, ℕ, ◌<◌, List, length, Result, Err, ap}
use Rattle.msc_parser.specs.declared.fault.ParseFault.{ParseFault}
use Rattle.msc_chart.specs.declared.fault.ChartFault.{ChartFault}
use Rattle.msc_chart.specs.Drawings.{Drawing}
use Rattle.msc_ending.specs.declared.fault.RunFault.{RunFault}
use Rattle.msc_ending.specs.declared.fault.RunFault.TheVariants as runs
use Rattle.msc_report.specs.declared.fault.Fault.{Fault}
use Rattle.msc_report.specs.declared.fault.Fault.TheVariants.{Parse, Chart}
use Rattle.msc_report.specs.Refusals.{of_run}
use Rattle.msc_source.specs.Texts.{IsChartOf}
use Rattle.msc_calls.specs.Running.{NamesAnInstance}

-- what keeps a chart from being run is no fault of a text
pub run_refuses_no_text : {A : Type 0} (r : RunFault) (f : ParseFault) → ◌≢◌ {A = Result A Fault} (Err (of_run r)) (Err (Parse f))
run_refuses_no_text {A} (runs.NotStarted i) f e = cc
run_refuses_no_text {A} runs.Memory f e = cc

-- and none of a draft
pub run_refuses_no_draft : {A : Type 0} (r : RunFault) (f : ChartFault) → ◌≢◌ {A = Result A Fault} (Err (of_run r)) (Err (Chart f))
run_refuses_no_draft {A} (runs.NotStarted i) f e = cc
run_refuses_no_draft {A} runs.Memory f e = cc

-- an instance that could not be started is one of the text's chart
pub run_names : {A : Type 0} (text : List ℕ) (d : Drawing) (r : RunFault) → IsChartOf text d
    → ((i : ℕ) → r ≡ runs.NotStarted i → i < length d.instances) → NamesAnInstance {A = A} text (Err (of_run r))
run_names {A} text d (runs.NotStarted j) of_text said i e = (d, of_text, let same : j ≡ i = cc in said i (ap runs.NotStarted same))
run_names {A} text d runs.Memory of_text said i e = absurd cc

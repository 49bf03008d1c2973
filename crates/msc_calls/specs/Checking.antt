-- What checking a text answers.
use Rattle.std.specs.Prelude.{◌≡◌, ℕ, Bool, true, false, List, [], ◌++◌, take, drop, Option, None, Some, Result, Err}
use Rattle.std.specs.List.{flat_map}
use Rattle.std.specs.Io.KnownBytes.{Appends}
use Rattle.msc_parser.specs.Grammar.{Tree}
use Rattle.msc_parser.specs.Parsing.{HasDraft}
use Rattle.msc_chart.specs.declared.fault.ChartFault.{ChartFault}
use Rattle.msc_chart.specs.declared.queue.Queues.{Queues}
use Rattle.msc_chart.specs.Drawings.{Drawing}
use Rattle.msc_chart.specs.Lists.{Occurs}
use Rattle.msc_chart.specs.Faults.{Stands, IsFirstFault}
use Rattle.msc_chart.specs.Orders.{WiredChart, wired}
use Rattle.msc_chart.specs.Runs.{Run, IsWhole, Reverses}
use Rattle.msc_race.specs.declared.verdict.Verdict.{Verdict}
use Rattle.msc_race.specs.declared.verdict.Verdict.TheVariants.{Pass, Races}
use Rattle.msc_race.specs.Races.{IsVerdict, TellsRuns}
use Rattle.msc_source.specs.Texts.{IsChartOf}
use Rattle.msc_judge.specs.Findings.{AreWitness}
use Rattle.msc_print.specs.Pages.{WritesBeginning}
use Rattle.msc_report.specs.declared.fault.Fault.{Fault}
use Rattle.msc_report.specs.declared.fault.Fault.TheVariants.{Chart, Memory}
use Rattle.msc_report.specs.Heads.{verdict_text}
use Rattle.msc_report.specs.Verdicts.{race_text}

-- whether a verdict is `pass`
abbrev pub passes : Verdict → Bool
passes Pass = true
passes (Races pairs) = false

-- the races of a verdict
abbrev pub races_of : Verdict → List (ℕ × ℕ)
races_of Pass = []
races_of (Races pairs) = pairs

-- each race in order, with the run of its first event
abbrev pub shown_text : Drawing → (ℕ → List ℕ) → List (ℕ × ℕ) → List ℕ
shown_text d runs pairs = flat_map (λ p. race_text d p.0 p.1 (Some (runs p.0))) pairs

-- each race in order, without a run
abbrev pub unshown_text : Drawing → List (ℕ × ℕ) → List ℕ
unshown_text d pairs = flat_map (λ p. race_text d p.0 p.1 None) pairs

-- each race in order, so many of them with their runs
abbrev pub races_text : Drawing → (ℕ → List ℕ) → ℕ → List (ℕ × ℕ) → List ℕ
races_text d runs show pairs = shown_text d runs (take show pairs) ++ unshown_text d (drop show pairs)

-- what is printed of a chart: the head of its verdict and each race
abbrev pub checked_text : Drawing → Queues → (ℕ → List ℕ) → ℕ → Verdict → List ℕ
checked_text d queues runs show v = verdict_text d queues v ++ races_text d runs show (races_of v)

-- each race of a verdict is reversed by the run of its first event, a whole run
abbrev pub ShowsRaces : WiredChart → (ℕ → List ℕ) → Verdict → Type 0
ShowsRaces chart runs v =
    (e f : ℕ) → Occurs (races_of v) (e, f) → Run chart (runs e) × IsWhole chart (runs e) × Reverses (runs e) e f

-- What is printed of a verdict on a chart: of its races the first `show` with the witness of their
-- first event, which reverses them.
pub record PrintsVerdict (d : Drawing) (queues : Queues) (show : ℕ) (v : Verdict) (printed : List ℕ) : Type 0 where
  pub runs : ℕ → List ℕ
  pub witness : AreWitness (wired queues d) runs
  pub reverse : ShowsRaces (wired queues d) runs v
  pub text : printed ≡ checked_text d queues runs show v

-- What is printed of a text, and whether the verdict on its chart is `pass`. The verdict names the
-- chart's races, which are the drawn pairs that some run reverses.
pub record Prints (text : List ℕ) (queues : Queues) (show : ℕ) (passed : Bool) (printed : List ℕ) : Type 0 where
  pub chart : Drawing
  pub of_text : IsChartOf text chart
  pub verdict : Verdict
  pub races : IsVerdict (wired queues chart) verdict
  pub reversed : TellsRuns (wired queues chart) verdict
  pub answered : passed ≡ passes verdict
  pub shown : PrintsVerdict chart queues show verdict printed

-- what is printed of the text went behind the known bytes of a writer
abbrev pub WritesVerdict : List ℕ → Queues → ℕ → Bool → Option (List ℕ) → Option (List ℕ) → Type 0
WritesVerdict text queues show passed before after =
    (printed : List ℕ) × Prints text queues show passed printed × Appends before after printed

-- a beginning of what is printed of the text went behind the known bytes of a writer
abbrev pub BeginsVerdict : List ℕ → Queues → ℕ → Option (List ℕ) → Option (List ℕ) → Type 0
BeginsVerdict text queues show before after =
    (passed : Bool) × (printed : List ℕ) × Prints text queues show passed printed × WritesBeginning before after printed

-- the draft's first fault, or want of memory
abbrev pub IsRefusalOf : Tree → Fault → Type 0
IsRefusalOf draft (Chart f) = IsFirstFault draft f
IsRefusalOf draft Memory = Unit {0}
IsRefusalOf draft fault = ⊥

-- a draft that is no chart is refused, with its first fault unless memory runs out, and no other is
pub record RefusesDraft {A : Type 0} (text : List ℕ) (answer : Result A Fault) : Type 0 where
  pub stands : (f : ChartFault) → answer ≡ Err (Chart f) → (draft : Tree) × HasDraft text draft × IsFirstFault draft f
  pub comes : (draft : Tree) → HasDraft text draft → (f : ChartFault) → Stands draft f
      → (fault : Fault) × (answer ≡ Err fault) × IsRefusalOf draft fault

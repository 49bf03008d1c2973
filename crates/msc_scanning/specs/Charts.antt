-- What is printed of a text that is read as a chart.
use Rattle.std.specs.Prelude.{◌≡◌, ◌⊎◌, ℕ, List, Ok, Err}
use Rattle.std.specs.Borrow.{Bor}
use Rattle.msc_answer.specs.Charted.{of_text, ChartedText}
use Rattle.msc_answer.specs.Linked.{AreNamesIn}
use Rattle.msc_answer.specs.Own.{SaysInChart}
use Rattle.msc_answer.specs.declared.ending.Refusal.{Refusal}
use Rattle.msc_answer.specs.declared.ending.Refusal.TheVariants as refusals
use Rattle.msc_answer.specs.declared.tasks.LinkWords.{LinkWords}
use Rattle.msc_answer.specs.declared.verdicts.Subject.TheVariants as subjects
use Rattle.msc_links.specs.declared.line.LineNames.{LineNames}
use Rattle.msc_report.specs.Refusals.{of_source}
use Rattle.msc_source.specs.Reading.{IsReading}
use Rattle.msc_source.specs.Texts.{SourceText}
use Rattle.msc_source.specs.declared.fault.SourceFault.{SourceFault}
use Rattle.msc_source.specs.declared.language.Language.TheVariants.{MscPr}
use Rattle.msc_wording.specs.declared.closing.MarkedText.TheVariants as texts
use Rattle.msc_scanning.specs.Linking.{IsRefusedSo, PutsLinked, RefusesLinked}
use Rattle.msc_scanning.specs.Queued.{AreKnown}
use Rattle.msc_scanning.specs.declared.outcome.Outcome.{Outcome}
use Rattle.msc_scanning.specs.declared.putting.Target.{Target}
use Rattle.msc_scanning.specs.declared.queues.Linked.TheVariants as linked
use Rattle.msc_scanning.specs.declared.words.Plan.{Plan}

-- the chart of a text, with the name of its file
pub record IsChartTarget (file : List ℕ) (s : Bor ChartedText) (target : Target) : Type 0 where
  pub subject : target.subject ≡ subjects.Chart s
  pub file_is : target.file.now ≡ file
  pub label_is : target.label.now ≡ file
  pub help_is : target.help ≡ texts.Chart

-- what is printed of it: the verdicts on it, or why it is refused. Rules for lines that it lacks are
-- passed over
pub record PutsCharted (p : Plan) (file : List ℕ) (s : Bor ChartedText) (outcome : Outcome) (printed : List ℕ) : Type 0 where
  pub names : List LineNames
  pub are_names : AreNamesIn s.now.chart names
  pub known : LinkWords
  pub are_known : AreKnown names p.args.words.links known
  pub target : Target
  pub is_target : IsChartTarget file s target
  pub puts : PutsLinked p target known (linked.Chart s) (SaysInChart s.now.text) outcome printed
      ⊎ ((refusal : Refusal) × RefusesLinked p target known (linked.Chart s) refusal × IsRefusedSo p file file s.now.text refusal outcome printed)

-- the text draws this chart
abbrev pub DrawsChart : List ℕ → ChartedText → Type 0
DrawsChart text s = (source : SourceText) × IsReading MscPr text (Ok source) × (s ≡ of_text source.text source.chart)

-- what is printed of a text that is read as a chart, and what was found
abbrev pub PutsChart : Plan → List ℕ → List ℕ → Outcome → List ℕ → Type 0
PutsChart p file text outcome printed =
    ((s : Bor ChartedText) × DrawsChart text s.now × PutsCharted p file s outcome printed)
    ⊎ ((fault : SourceFault) × IsReading MscPr text (Err fault) × IsRefusedSo p file file text (refusals.Fault (of_source fault)) outcome printed)

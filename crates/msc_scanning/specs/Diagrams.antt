-- What is printed of a sequence diagram.
use Rattle.std.specs.Prelude.{◌≡◌, ◌⊎◌, ℕ, List, map, Option, None, Some, option_map, is_some, Ok, Err}
use Rattle.std.specs.Borrow.{Bor}
use Rattle.msc_answer.specs.ArrowMarks.{AreArrowMarks, ReadsArrowMarks}
use Rattle.msc_answer.specs.Charting.{with_chart, AreCharts}
use Rattle.msc_answer.specs.Linked.{AreNamesOf}
use Rattle.msc_answer.specs.Own.{OwnSaid, said_in}
use Rattle.msc_answer.specs.Scenarios.{wanted_of, with_fence, IsDiagramOf, IsFirst, IsImportOfAll}
use Rattle.msc_answer.specs.ShownDiagrams.{line_in}
use Rattle.msc_answer.specs.Surveys.{numbered}
use Rattle.msc_answer.specs.declared.ending.Refusal.{Refusal}
use Rattle.msc_answer.specs.declared.scenarios.Told.{Told}
use Rattle.msc_answer.specs.declared.shown_diagram.DiagramText.{DiagramText}
use Rattle.msc_answer.specs.declared.tasks.LinkWords.{LinkWords}
use Rattle.msc_answer.specs.declared.tasks.ScenarioArgs.{ScenarioArgs}
use Rattle.msc_answer.specs.declared.verdicts.Subject.TheVariants as subjects
use Rattle.msc_diagram.specs.declared.scenario.Scenario.{Scenario}
use Rattle.msc_findings.specs.declared.format.Following.TheVariants.{Blank}
use Rattle.msc_import.specs.Whole.{imported_all}
use Rattle.msc_import.specs.declared.whole.Scenarios.{Scenarios}
use Rattle.msc_links.specs.declared.line.LineNames.{LineNames}
use Rattle.msc_wording.specs.declared.closing.MarkedText.TheVariants as texts
use Rattle.msc_scanning.specs.Linking.{IsRefusedSo, PutsLinked}
use Rattle.msc_scanning.specs.Queued.{AreKnown, IsUnqueued}
use Rattle.msc_scanning.specs.declared.diagrams.Drawn.{Drawn}
use Rattle.msc_scanning.specs.declared.diagrams.Site.{Site}
use Rattle.msc_scanning.specs.declared.outcome.Outcome.{Outcome}
use Rattle.msc_scanning.specs.declared.putting.Target.{Target}
use Rattle.msc_scanning.specs.declared.queues.Linked.TheVariants as linked
use Rattle.msc_scanning.specs.declared.words.Plan.{Plan}

-- the name of a diagram, with its number in Markdown
abbrev pub name_at : List ℕ → Option ℕ → List ℕ
name_at name None = name
name_at name (Some n) = numbered name n

-- the words for the diagram of this number, if one is given
abbrev pub words_at : Site → ScenarioArgs
words_at site = with_fence site.number site.words

-- what the comment lines of a diagram say of its queues
abbrev pub DiagramSays : DiagramText → OwnSaid → Type 0
DiagramSays d said = said ≡ said_in d.text.now d.diagram.now.comments

-- this is told of a diagram besides its races; none of its marks is faulty if they are used
pub record IsToldSo (drawn : Drawn) (t : Told) : Type 0 where
  pub diagram_is : t.diagram ≡ drawn.site.diagram
  pub name_is : t.name ≡ drawn.name
  pub counted_is : t.counted ≡ drawn.site.label
  pub drawn_is : t.drawn ≡ drawn.drawn
  pub marks_are : AreArrowMarks drawn.site.words.check_args.accept drawn.site.diagram.text.now drawn.site.diagram.diagram.now (option_map (λ m. m.now) t.marks)
  pub chosen_is : t.chosen ≡ is_some drawn.site.words.choose
  pub following_is : t.following ≡ Blank

-- a diagram with its scenarios
pub record IsDiagramTarget (drawn : Drawn) (target : Target) : Type 0 where
  pub told : Told
  pub told_is : IsToldSo drawn told
  pub subject : target.subject ≡ subjects.Diagram told drawn.charts
  pub file_is : target.file ≡ drawn.site.diagram.file
  pub label_is : target.label ≡ drawn.site.label
  pub help_is : target.help ≡ texts.Diagram

-- what is printed of it by these rules of the command line
abbrev pub PutsDrawn : Plan → Drawn → Bor Scenario → LinkWords → Outcome → List ℕ → Type 0
PutsDrawn p drawn first links outcome printed =
    (target : Target) × IsDiagramTarget drawn target
    × PutsLinked p target links (linked.Diagram drawn.site.diagram.text first) (DiagramSays drawn.site.diagram) outcome printed

-- why nothing is: its queues or its marks are refused
abbrev pub RefusesDrawn : Plan → Drawn → Bor Scenario → LinkWords → Refusal → Type 0
RefusesDrawn p drawn first links refusal =
    IsUnqueued links (linked.Diagram drawn.site.diagram.text first) refusal
    ⊎ ReadsArrowMarks drawn.site.words.check_args.accept drawn.site.diagram.text.now drawn.site.diagram.diagram.now (Err refusal)

-- a diagram is refused so
abbrev pub IsSiteRefused : Plan → Site → Refusal → Outcome → List ℕ → Type 0
IsSiteRefused p site refusal outcome printed =
    IsRefusedSo p site.label.now site.diagram.file.now site.diagram.text.now refusal outcome printed

-- What is printed of it: the verdicts on it, or why it is refused. Rules for lines that it lacks are
-- passed over.
pub record PutsScenarios (p : Plan) (drawn : Drawn) (outcome : Outcome) (printed : List ℕ) : Type 0 where
  pub first : Bor Scenario
  pub is_first : IsFirst drawn.charts.now first.now
  pub names : List LineNames
  pub are_names : AreNamesOf drawn.site.diagram.text.now first.now.spans first.now.chart names
  pub known : LinkWords
  pub are_known : AreKnown names p.args.words.links known
  pub puts : PutsDrawn p drawn first known outcome printed
      ⊎ ((refusal : Refusal) × RefusesDrawn p drawn first known refusal × IsSiteRefused p drawn.site refusal outcome printed)

-- these are its scenarios with their charts, and its name
pub record IsDrawnSo (site : Site) (all : Scenarios) (drawn : Drawn) : Type 0 where
  pub site_is : drawn.site ≡ site
  pub name_is : drawn.name.now ≡ name_at all.name site.number
  pub drawn_is : drawn.drawn ≡ all.drawn
  pub charts_are : drawn.charts.now ≡ map (with_chart site.diagram.file.now) all.list

abbrev pub PutsAll : Plan → Site → Scenarios → Outcome → List ℕ → Type 0
PutsAll p site all outcome printed = (drawn : Drawn) × IsDrawnSo site all drawn × PutsScenarios p drawn outcome printed

-- what is printed of a diagram that can be read: that of all its scenarios, or why it has none
abbrev pub PutsRead : Plan → Site → Outcome → List ℕ → Type 0
PutsRead p site outcome printed =
    ((all : Scenarios) × (imported_all (wanted_of (words_at site)) site.diagram.text.now ≡ Ok all) × AreCharts all.list × PutsAll p site all outcome printed)
    ⊎ ((refusal : Refusal) × IsImportOfAll (words_at site) site.diagram.text.now (Err refusal) × IsSiteRefused p site refusal outcome printed)

-- this is the diagram of a text, of this number if one is given, in a file of this name
pub record IsSiteOf (x : ScenarioArgs) (file text : List ℕ) (number : Option ℕ) (line : Option ℕ) (site : Site) : Type 0 where
  pub words_are : site.words ≡ x
  pub file_is : site.diagram.file.now ≡ file
  pub text_is : site.diagram.text.now ≡ text
  pub line_is : site.diagram.line ≡ line
  pub label_is : site.label.now ≡ name_at file number
  pub number_is : site.number ≡ number
  pub reads : IsDiagramOf (with_fence number x) text (Ok site.diagram.diagram.now)

-- the first line of the block of the diagram of this number
abbrev pub line_at : Option ℕ → List ℕ → Option ℕ
line_at None text = None
line_at (Some n) text = line_in (Some n) text

-- what is printed of the diagram of a text: that of what was read, or why it cannot be read
abbrev pub PutsDiagram : Plan → ScenarioArgs → List ℕ → List ℕ → Option ℕ → Outcome → List ℕ → Type 0
PutsDiagram p x file text number outcome printed =
    ((site : Site) × IsSiteOf x file text number (line_at number text) site × PutsRead p site outcome printed)
    ⊎ ((refusal : Refusal) × IsDiagramOf (with_fence number x) text (Err refusal)
    × IsRefusedSo p (name_at file number) file text refusal outcome printed)

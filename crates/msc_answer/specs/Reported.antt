-- The report of all scenarios of a diagram.
use Rattle.std.specs.Prelude.{◌≡◌, ◌<◌, ℕ, ◌+◌, Bool, true, false, cond, List, [], ◌∷◌, ◌++◌, Option, None, Some, Result, Ok, Err, codes, length, nat_eq, nat_lt}
use Rattle.std.specs.Fmt.{decimal}
use Rattle.std.specs.List.{flat_map, slice_get}
use Rattle.msc_chart.specs.Drawings.{chart_of}
use Rattle.msc_diagram.specs.Checks.{with_options}
use Rattle.msc_diagram.specs.Judging.{JudgesScenarios}
use Rattle.msc_diagram.specs.NewRaces.{AreNewLists}
use Rattle.msc_diagram.specs.declared.check.ScenarioCheck.{ScenarioCheck}
use Rattle.msc_diagram.specs.declared.judging.DiagramFormat.{DiagramFormat}
use Rattle.msc_diagram.specs.declared.judging.Judged.{Judged}
use Rattle.msc_diagram.specs.declared.scenario.Scenario.{Scenario}
use Rattle.msc_draw.specs.Numbering.{later_bars}
use Rattle.msc_html.specs.DiagramReports.{diagram_report_text}
use Rattle.msc_html.specs.declared.diagram.DiagramReport.{DiagramReport}
use Rattle.msc_html.specs.declared.diagram.ReportSection.{ReportSection}
use Rattle.msc_import.specs.Drafting.{drawn}
use Rattle.msc_import.specs.Numbering.{arrow_numbers}
use Rattle.msc_judge.specs.Options.{for_people}
use Rattle.msc_mermaid.specs.declared.statement.Diagram.{Diagram}
use Rattle.msc_parser.specs.Grammar.{Tree}
use Rattle.msc_picture.specs.Scenes.{IsMarkedSceneOf}
use Rattle.msc_picture.specs.declared.scene.Scene.{Scene}
use Rattle.msc_shown_diagram.specs.Choices.{AreChoicesSaid}
use Rattle.msc_chart.specs.declared.queue.Queues.{Queues}
use Rattle.msc_findings.specs.declared.format.Following.TheVariants.{Blank}
use Rattle.msc_print.specs.declared.page.Page.{Page}
use Rattle.msc_reason.specs.declared.kinds.KindSet.{KindSet}
use Rattle.msc_report.specs.declared.fault.Fault.TheVariants.{Memory}
use Rattle.msc_answer.specs.Tasks.{unlimited}
use Rattle.msc_answer.specs.Drawing.{version}
use Rattle.msc_answer.specs.Scenarios.{check_of, top_in, IsFormatOf, IsToldOf, OfScenarios, RefusesScenarios}
use Rattle.msc_answer.specs.ShownDiagrams.{line_in}
use Rattle.msc_answer.specs.declared.ending.Refusal.{Refusal}
use Rattle.msc_answer.specs.declared.ending.Refusal.TheVariants as refusals
use Rattle.msc_answer.specs.declared.reporting.ReportedScenario.{ReportedScenario}
use Rattle.msc_answer.specs.declared.scenarios.Told.{Told}
use Rattle.msc_answer.specs.declared.tasks.CheckArgs.{CheckArgs}
use Rattle.msc_answer.specs.declared.tasks.DiagramArgs.{DiagramArgs}
use Rattle.msc_answer.specs.declared.tasks.Format.TheVariants as formats
use Rattle.msc_answer.specs.declared.tasks.ReportArgs.{ReportArgs}
use Rattle.msc_answer.specs.declared.tasks.ScenarioArgs.{ScenarioArgs}

-- no kind of race
abbrev pub no_kind : KindSet
no_kind = record { early = false; queues = false; unordered = false; overtaken = false }

-- the check of a report on all scenarios of a diagram: of all closest races, as people read them
abbrev pub reported_check : Queues → CheckArgs
reported_check queues = record {
  queues = queues;
  options = record { closest = true; why = true; allowed = no_kind; most = unlimited; show = 0; short = true };
  accept = false;
  again = false;
  format = formats.Full;
  colours = false;
  event_style = record { places = false; words = false };
  following = Blank;
}

-- the check of all scenarios of a diagram for a report
abbrev pub reported_scenarios : ReportArgs → ScenarioArgs
reported_scenarios x = record {
  diagram = x.diagram;
  rounds = None;
  limit = 4096;
  choose = None;
  check_args = reported_check x.queues;
  links = x.links;
  quiet = false;
}

-- the check whose races a report lists: the closest ones, without marks
abbrev pub listed_check : CheckArgs → ScenarioCheck
listed_check c = with_options (check_of c None) (for_people c.options)

-- this is printed of the findings on these scenarios in the form that is asked for
abbrev pub IsFoundText : CheckArgs → Told → List Scenario → List ℕ → Type 0
IsFoundText c t scenarios text =
    (format : DiagramFormat) × IsFormatOf c t scenarios format
    × (judged : Judged) × JudgesScenarios (top_in format c t scenarios) scenarios (check_of c None) format judged text

-- a scenario is called by its number and its choices, the only one by neither
abbrev pub IsHeading : Told → ReportedScenario → List ℕ → Type 0
IsHeading t x heading =
    cond (nat_eq x.scenarios 1) (heading ≡ codes "The diagram")
    ((said : List ℕ) × AreChoicesSaid t.diagram.diagram.now t.diagram.text.now x.choices.now said
    × (heading ≡ codes "Scenario " ++ (decimal x.number ++ (codes " of " ++ (decimal x.scenarios ++ (codes ": " ++ said))))))

-- further choices, each behind a comma
abbrev pub next_choice : ℕ → List ℕ
next_choice x = codes "," ++ decimal x

-- choices as a word
abbrev pub choices_word : List ℕ → List ℕ
choices_word [] = []
choices_word (x ∷ choices) = decimal x ++ flat_map next_choice choices

-- the command that draws the scenario with these choices
abbrev pub command_text : List ℕ → List ℕ
command_text choices = codes "msc draw --choose " ++ choices_word choices

-- the picture of the scenario with these choices: with the bars of these races, of which the first has
-- the number after this one, and with its rows in the order of the text
pub record IsPictureOf (x : DiagramArgs) (d : Diagram) (choices : List ℕ) (races : List (ℕ × ℕ)) (first : ℕ) (scene : Scene) : Type 0 where
  pub draft : Tree
  pub draft_is : drawn x.manner x.name.now d choices ≡ Ok draft
  pub ranks : List ℕ
  pub ranks_are : arrow_numbers x.manner d choices ≡ Ok ranks
  pub scene_is : IsMarkedSceneOf draft (chart_of draft) (Some ranks) (later_bars (chart_of draft).events races first) scene

-- it is there, or it is none of the first
abbrev pub IsPictured : Bool → (Scene → Type 0) → Option Scene → Type 0
IsPictured true is (Some scene) = is scene
IsPictured false is None = Unit {0}
IsPictured pictured is picture = ⊥

-- this is a scenario in a report
pub record IsSection (x : DiagramArgs) (t : Told) (shown : ReportedScenario) (s : ReportSection) : Type 0 where
  pub heading_is : IsHeading t shown s.heading
  pub picture_is : IsPictured shown.pictured (IsPictureOf x t.diagram.diagram.now shown.choices.now shown.races.now shown.first) s.picture
  pub command_is : s.command ≡ command_text shown.choices.now
  pub races_are : s.races ≡ length shown.races.now

-- this is the scenario of this number, from 0, in a report, with these races
pub record IsSectionAt (x : DiagramArgs) (t : Told) (scenarios : List Scenario) (i : ℕ) (races : List (ℕ × ℕ)) (first : ℕ) (pictured : Bool) (s : ReportSection) : Type 0 where
  pub scenario : Scenario
  pub at : slice_get scenarios i ≡ Some scenario
  pub shown : ReportedScenario
  pub number_is : shown.number ≡ i + 1
  pub scenarios_are : shown.scenarios ≡ length scenarios
  pub choices_are : shown.choices.now ≡ scenario.choices
  pub races_are : shown.races.now ≡ races
  pub first_is : shown.first ≡ first
  pub pictured_is : shown.pictured ≡ pictured
  pub is : IsSection x t shown s

-- These are the scenarios in a report that have new races, from scenario i on, below so many races and so
-- many such scenarios: the first eight have pictures.
pub data AreSectionsFrom (x : DiagramArgs) (t : Told) (scenarios : List Scenario) : ℕ → ℕ → ℕ → List (List (ℕ × ℕ)) → List ReportSection → Type 0 where
  none : {i first many : ℕ} → AreSectionsFrom x t scenarios i first many [] []
  passed : {i first many : ℕ} {new : List (List (ℕ × ℕ))} {sections : List ReportSection}
      → AreSectionsFrom x t scenarios (i + 1) first many new sections
      → AreSectionsFrom x t scenarios i first many ([] ∷ new) sections
  told : {i first many : ℕ} {races : List (ℕ × ℕ)} {new : List (List (ℕ × ℕ))} {s : ReportSection} {sections : List ReportSection}
      → 0 < length races → IsSectionAt x t scenarios i races first (nat_lt many 8) s
      → AreSectionsFrom x t scenarios (i + 1) (first + s.races) (many + 1) new sections
      → AreSectionsFrom x t scenarios i first many (races ∷ new) (s ∷ sections)

abbrev pub AreSections : DiagramArgs → Told → List Scenario → List (List (ℕ × ℕ)) → List ReportSection → Type 0
AreSections x t scenarios new sections = AreSectionsFrom x t scenarios 0 0 0 new sections

-- this is the page: the findings as people read them, and the scenarios in which races are listed first
pub record IsReportPage (x : ScenarioArgs) (t : Told) (scenarios : List Scenario) (printed : List ℕ) : Type 0 where
  pub report : DiagramReport
  pub name_is : report.name ≡ t.name.now
  pub scenarios_are : report.scenarios ≡ length scenarios
  pub found_is : IsFoundText x.check_args t scenarios report.found
  pub new : List (List (ℕ × ℕ))
  pub new_are : AreNewLists scenarios (listed_check x.check_args) new
  pub sections_are : AreSections x.diagram t scenarios new report.sections
  pub first : Scenario
  pub at : slice_get scenarios 0 ≡ Some first
  pub text : printed ≡ diagram_report_text report first.chart x.check_args.queues version

-- what is printed of all scenarios of the diagram of a text, in a file of this name, for the words of a
-- check
abbrev pub PrintsReportBy : ScenarioArgs → List ℕ → List ℕ → List ℕ → Type 0
PrintsReportBy x file text printed =
    OfScenarios x file text (λ c name scenarios. (t : Told) × IsToldOf x file text name file (line_in x.diagram.fence text) Blank t
    × IsReportPage (record x { check_args = c }) t scenarios printed)

-- the page with that, or why there is none
abbrev pub IsReportBy : ScenarioArgs → List ℕ → List ℕ → Result Page Refusal → Type 0
IsReportBy x file text (Ok page) = PrintsReportBy x file text page.bytes.items
IsReportBy x file text (Err (refusals.Fault Memory)) = Unit {0}
IsReportBy x file text (Err refusal) = RefusesScenarios x text refusal

-- what is printed for the words of `report`
abbrev pub PrintsReported : ReportArgs → List ℕ → List ℕ → List ℕ → Type 0
PrintsReported r file text printed = PrintsReportBy (reported_scenarios r) file text printed

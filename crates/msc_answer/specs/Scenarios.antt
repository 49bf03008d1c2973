-- What is asked of the races of all scenarios of a diagram.
use Rattle.std.specs.Prelude.{◌≡◌, ◌⊎◌, ℕ, Bool, true, false, ◌&&◌, not, List, [], ◌∷◌, map, Option, None, Some, option_map, Result, Ok, Err, is_ok, is_some, nat_eq, unwrap_or}
use Rattle.std.specs.Borrow.{Bor}
use Rattle.msc_chart.specs.declared.queue.Queues.{Queues}
use Rattle.msc_chart.specs.Architectures.{usual_of}
use Rattle.msc_chart.specs.Faults.{IsFaultless, IsFirstFault}
use Rattle.msc_arrow_marks.specs.Accepting.{acceptance, Acceptance}
use Rattle.msc_arrow_marks.specs.declared.marks.DiagramMarks.{DiagramMarks}
use Rattle.msc_diagram.specs.Closing.{has_marks}
use Rattle.msc_diagram.specs.Judging.{BeginsScenarios as BeginsOf, JudgesScenarios, PassesScenarios, TellsScenarios}
use Rattle.msc_diagram.specs.Scenarios.{diagram_top, first_chart}
use Rattle.msc_findings.specs.declared.format.Following.{Following}
use Rattle.msc_diagram.specs.declared.judging.DiagramFormat.{DiagramFormat as DiagramFormat}
use Rattle.msc_diagram.specs.declared.judging.DiagramFormat.TheVariants as diagrams
use Rattle.msc_diagram.specs.declared.judging.Judged.{Judged}
use Rattle.msc_diagram.specs.declared.check.ScenarioCheck.{ScenarioCheck}
use Rattle.msc_diagram.specs.declared.check.UsedMarks.{UsedMarks}
use Rattle.msc_diagram.specs.declared.scenario.Scenario.{Scenario}
use Rattle.msc_import.specs.Importing.{read, seen}
use Rattle.msc_import.specs.Whole.{WantedAll, imported_all, may_draw, reading_of_all, refusing}
use Rattle.msc_import.specs.declared.drawings.Scenario.{Scenario as Drawn}
use Rattle.msc_import.specs.declared.whole.Scenarios.{Scenarios}
use Rattle.msc_mermaid.specs.declared.statement.Diagram.{Diagram}
use Rattle.msc_print.specs.declared.page.WriteFault.{WriteFault}
use Rattle.msc_print.specs.declared.page.WriteFault.TheVariants as faults
use Rattle.msc_report.specs.declared.fault.Fault.TheVariants.{Chart, Memory}
use Rattle.msc_answer.specs.Charting.{with_chart, AreCharts}
use Rattle.msc_answer.specs.Ending.{ended_by}
use Rattle.msc_answer.specs.ArrowMarks.{AreArrowMarks, IsFaultyMark}
use Rattle.msc_answer.specs.Importing.{IsNotImported, choices_by, rounds_of}
use Rattle.msc_answer.specs.Linked.{AreLinkedIn, HasLinkFaultIn}
use Rattle.msc_answer.specs.ShownDiagrams.{line_in, IsFullDiagram}
use Rattle.msc_answer.specs.declared.arrow_marks.RefusedMark.{RefusedMark}
use Rattle.msc_answer.specs.declared.ending.Refusal.{Refusal}
use Rattle.msc_answer.specs.declared.ending.Refusal.TheVariants as refusals
use Rattle.msc_answer.specs.declared.ending.Status.{Status}
use Rattle.msc_answer.specs.declared.scenarios.Surveyed.{Surveyed}
use Rattle.msc_answer.specs.declared.scenarios.Told.{Told}
use Rattle.msc_answer.specs.declared.tasks.CheckArgs.{CheckArgs}
use Rattle.msc_answer.specs.declared.tasks.Format.TheVariants as formats
use Rattle.msc_answer.specs.declared.tasks.Format.{Format}
use Rattle.msc_answer.specs.declared.tasks.ScenarioArgs.{ScenarioArgs}

-- what is wanted of a text
abbrev pub wanted_of : ScenarioArgs → WantedAll
wanted_of x = record {
  language = x.diagram.language;
  fence = x.diagram.fence;
  cross = x.diagram.cross;
  manner = x.diagram.manner;
  rounds = rounds_of (option_map (λ r. r.now) x.rounds);
  limit = x.limit;
  choose = choices_by (option_map (λ c. c.now) x.choose);
  name = x.diagram.name.now;
}

-- the same words for the diagram of a number of a text, if one is given
abbrev pub with_fence : Option ℕ → ScenarioArgs → ScenarioArgs
with_fence fence x = record x { diagram = record x.diagram { fence = fence } }

-- the diagram of a text, or why there is none
abbrev pub IsDiagramOf : ScenarioArgs → List ℕ → Result Diagram Refusal → Type 0
IsDiagramOf x text (Ok d) = read (reading_of_all (wanted_of x)) text ≡ Ok d
IsDiagramOf x text (Err refusal) = IsNotImported (read (reading_of_all (wanted_of x)) text) refusal

-- all scenarios of the diagram of a text, or why there are none
abbrev pub IsImportOfAll : ScenarioArgs → List ℕ → Result Scenarios Refusal → Type 0
IsImportOfAll x text (Ok all) = imported_all (wanted_of x) text ≡ Ok all
IsImportOfAll x text (Err refusal) = IsNotImported (imported_all (wanted_of x) text) refusal

-- that, or why it is no chart
abbrev pub IsCharted : List ℕ → Drawn → Result Scenario Refusal → Type 0
IsCharted file s (Ok c) = IsFaultless s.draft × (c ≡ with_chart file s)
IsCharted file s (Err (refusals.Fault (Chart f))) = IsFirstFault s.draft f
IsCharted file s (Err (refusals.Fault Memory)) = Unit {0}
IsCharted file s (Err refusal) = ⊥

-- parallel branches are drawn one below the other in a scenario of the text: there would be no
-- scenarios if such branches were refused
abbrev pub draws_branches : ScenarioArgs → List ℕ → Bool
draws_branches x text = may_draw x.diagram.manner.par && not (is_ok (imported_all (refusing (wanted_of x)) text))

-- the form in which scenarios are told, of which this is told besides
abbrev pub IsDiagramFormatIn : Format → CheckArgs → Told → List Scenario → DiagramFormat → Type 0
IsDiagramFormatIn formats.Text c t scenarios (diagrams.Lines style) = (style.words ≡ c.event_style.words) × (style.drawn ≡ t.drawn)
IsDiagramFormatIn formats.Count c t scenarios (diagrams.Count name) = name.now ≡ t.counted.now
IsDiagramFormatIn formats.Lines c t scenarios diagrams.Editor = Unit {0}
IsDiagramFormatIn formats.Full c t (s ∷ scenarios) (diagrams.Full full) =
    IsFullDiagram t.diagram s.spans.shown s.chart c.queues c.colours t.following full
IsDiagramFormatIn format c t scenarios of_diagram = ⊥

abbrev pub IsFormatOf : CheckArgs → Told → List Scenario → DiagramFormat → Type 0
IsFormatOf c t scenarios format = IsDiagramFormatIn c.format c t scenarios format

-- the first lines of the answer, in the forms that have some
abbrev pub top_in : DiagramFormat → CheckArgs → Told → List Scenario → List ℕ
top_in (diagrams.Full full) c t scenarios = []
top_in form c t scenarios = diagram_top t.name.now (first_chart scenarios) c.queues

-- the check of scenarios, with these marks
abbrev pub check_of : CheckArgs → Option UsedMarks → ScenarioCheck
check_of c marks = record { queues = c.queues; options = c.options; marks = marks }

-- these are the arrows whose races the marks of a diagram accept, where they are used
abbrev pub AreAccepted : CheckArgs → Told → Acceptance → Type 0
AreAccepted c t accepted =
    (marks : Bor DiagramMarks) × (t.marks ≡ Some marks)
    × (accepted ≡ acceptance t.diagram.text.now marks.now.marks t.diagram.diagram.now.statements (usual_of c.queues))

-- the marks of a diagram are used so
abbrev pub AreUsed : CheckArgs → Told → Option UsedMarks → Type 0
AreUsed c t None = t.marks ≡ None
AreUsed c t (Some m) =
    AreAccepted c t m.accepted.now × (m.file.now ≡ t.diagram.file.now) × (m.chosen ≡ t.chosen)

-- how the check of a diagram ends that was judged so, with marks or without
abbrev pub surveyed_of : Judged → Bool → Surveyed
surveyed_of judged marked =
    record { status = ended_by (nat_eq judged.listed 0 && nat_eq judged.stale 0); listed = judged.listed; accepted = unwrap_or judged.accepted 0; marked = marked }

-- What is printed of the races of these scenarios with these marks, of which this is told besides, and
-- how the check of them ends: nothing is where the status alone tells.
abbrev pub PrintsMarked : Bool → CheckArgs → Told → Option UsedMarks → List Scenario → Surveyed → List ℕ → Type 0
PrintsMarked true c t marks scenarios one printed =
    (passed : Bool) × (one ≡ record { status = ended_by passed; listed = 0; accepted = 0; marked = false })
    × PassesScenarios scenarios (check_of c marks) passed × (printed ≡ [])
PrintsMarked false c t marks scenarios one printed =
    (format : DiagramFormat) × IsFormatOf c t scenarios format
    × (judged : Judged) × (one ≡ surveyed_of judged (has_marks marks))
    × JudgesScenarios (top_in format c t scenarios) scenarios (check_of c marks) format judged printed

-- the same with the marks of the diagram, if they are used
abbrev pub PrintsCounted : Bool → CheckArgs → Told → List Scenario → Surveyed → List ℕ → Type 0
PrintsCounted quiet c t scenarios one printed =
    (marks : Option UsedMarks) × AreUsed c t marks × PrintsMarked quiet c t marks scenarios one printed

-- this is the first of these scenarios
abbrev pub IsFirst : List Scenario → Scenario → Type 0
IsFirst [] s = ⊥
IsFirst (first ∷ scenarios) s = first ≡ s

-- The races of these scenarios were told in a form that this asks for, and so many are listed; or
-- memory ran out, and the writer has had no call or has what begins that; or the writer failed.
abbrev pub TellsFormat : {W : Type 0} → (W → Option (List ℕ)) → CheckArgs → Told → Option UsedMarks → List Scenario → Result Judged WriteFault → W → W → Type 0
TellsFormat contents c t marks scenarios result old new =
    ((format : DiagramFormat) × IsFormatOf c t scenarios format × TellsScenarios contents
    (JudgesScenarios (top_in format c t scenarios) scenarios (check_of c marks) format)
    (BeginsOf (top_in format c t scenarios) scenarios (check_of c marks) format) result old new)
    ⊎ ((result ≡ Err faults.Memory) × (new ≡ old))

-- what is printed of them, and how the run ends
abbrev pub PrintsAll : Bool → CheckArgs → Told → List Scenario → Status → List ℕ → Type 0
PrintsAll quiet c t scenarios status printed =
    (one : Surveyed) × (one.status ≡ status) × PrintsCounted quiet c t scenarios one printed

-- what that begins with, where memory ran out
abbrev pub BeginsAll : Bool → CheckArgs → Told → List Scenario → List ℕ → Type 0
BeginsAll true c t scenarios printed = ⊥
BeginsAll false c t scenarios printed =
    (marks : Option UsedMarks) × AreUsed c t marks
    × (format : DiagramFormat) × IsFormatOf c t scenarios format × BeginsOf (top_in format c t scenarios) scenarios (check_of c marks) format printed

-- This is told of the diagram of a text, in a file of this name, by its names, the first line of its
-- block, and what follows its findings; with its marks, none of which is faulty, if they are used.
pub record IsToldOf (x : ScenarioArgs) (file text name counted : List ℕ) (line : Option ℕ) (following : Following) (t : Told) : Type 0 where
  pub file_is : t.diagram.file.now ≡ file
  pub text_is : t.diagram.text.now ≡ text
  pub read_as : read (reading_of_all (wanted_of x)) text ≡ Ok t.diagram.diagram.now
  pub line_is : t.diagram.line ≡ line
  pub name_is : t.name.now ≡ name
  pub counted_is : t.counted.now ≡ counted
  pub drawn_is : t.drawn ≡ draws_branches x text
  pub marks_are : AreArrowMarks x.check_args.accept text t.diagram.diagram.now (option_map (λ m. m.now) t.marks)
  pub chosen_is : t.chosen ≡ is_some x.choose
  pub following_is : t.following ≡ following

-- the same check under another architecture
abbrev pub checked_under : Queues → CheckArgs → CheckArgs
checked_under queues c = record c { queues = queues }

-- the check under the queues that the rules give, and the scenarios of a text, all of them charts, of
-- which this is said
abbrev pub OfScenarios : ScenarioArgs → List ℕ → List ℕ → (CheckArgs → List ℕ → List Scenario → Type 0) → Type 0
OfScenarios x file text says =
    (all : Scenarios) × (imported_all (wanted_of x) text ≡ Ok all) × AreCharts all.list
    × (queues : Queues) × AreLinkedIn (usual_of x.check_args.queues) x.links text all.list queues
    × says (checked_under queues x.check_args) all.name (map (with_chart file) all.list)

-- the words with the queues that their rules give for these scenarios of a text, or why these give none
abbrev pub IsLinkedArgs : ScenarioArgs → List ℕ → List Drawn → Result ScenarioArgs Refusal → Type 0
IsLinkedArgs x text scenarios (Ok y) =
    (queues : Queues) × AreLinkedIn (usual_of x.check_args.queues) x.links text scenarios queues
    × (y ≡ record x { check_args = checked_under queues x.check_args })
IsLinkedArgs x text scenarios (Err (refusals.Link fault)) = HasLinkFaultIn x.links text scenarios fault
IsLinkedArgs x text scenarios (Err (refusals.Fault Memory)) = Unit {0}
IsLinkedArgs x text scenarios (Err refusal) = ⊥

-- what is printed of a text of this file
abbrev pub PrintsScenarios : ScenarioArgs → List ℕ → List ℕ → Status → List ℕ → Type 0
PrintsScenarios x file text status printed =
    OfScenarios x file text (λ c name scenarios. (t : Told) × IsToldOf x file text name file (line_in x.diagram.fence text) x.check_args.following t
    × PrintsAll x.quiet c t scenarios status printed)

abbrev pub BeginsScenarios : ScenarioArgs → List ℕ → List ℕ → List ℕ → Type 0
BeginsScenarios x file text printed =
    OfScenarios x file text (λ c name scenarios. (t : Told) × IsToldOf x file text name file (line_in x.diagram.fence text) x.check_args.following t
    × BeginsAll x.quiet c t scenarios printed)

-- the first faulty mark of the diagram of a text, where marks are used
abbrev pub HasFaultyMark : ScenarioArgs → List ℕ → RefusedMark → Type 0
HasFaultyMark x text r =
    (x.check_args.accept ≡ true) × (d : Diagram) × (read (reading_of_all (wanted_of x)) text ≡ Ok d) × IsFaultyMark text d r

-- why nothing is printed: there are no scenarios, or a rule or a mark is faulty. Each of them is a chart
abbrev pub RefusesScenarios : ScenarioArgs → List ℕ → Refusal → Type 0
RefusesScenarios x text (refusals.Import e) = imported_all (wanted_of x) text ≡ Err (seen e)
RefusesScenarios x text (refusals.Link fault) =
    (all : Scenarios) × (imported_all (wanted_of x) text ≡ Ok all) × HasLinkFaultIn x.links text all.list fault
RefusesScenarios x text (refusals.ArrowMark r) =
    (all : Scenarios) × (imported_all (wanted_of x) text ≡ Ok all)
    × (queues : Queues) × AreLinkedIn (usual_of x.check_args.queues) x.links text all.list queues × HasFaultyMark x text r
RefusesScenarios x text refusal = ⊥

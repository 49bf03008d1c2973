-- What is answered for a task.
use Rattle.std.specs.Prelude.{◌≡◌, ◌<◌, ◌⊎◌, ◌++◌, ℕ, Bool, true, List, [], length, Option, None, Some, Result, Ok, Err, ◌||◌, false, is_some}
use Rattle.std.specs.Io.KnownBytes.{Appends}
use Rattle.msc_chart.specs.declared.queue.Queues.{Queues}
use Rattle.msc_chart.specs.Drawings.{Drawing}
use Rattle.msc_chart.specs.declared.fault.UnrollFault.{UnrollFault}
use Rattle.msc_parser.specs.Canonical.{canonical}
use Rattle.msc_parser.specs.Grammar.{Tree}
use Rattle.msc_print.specs.Pages.{WritesBeginning}
use Rattle.msc_mark.specs.declared.fault.MarkFault.{MarkFault}
use Rattle.msc_mark.specs.declared.mark.Mark.{Mark}
use Rattle.msc_judge.specs.Findings.{passes_in}
use Rattle.msc_markdown.specs.Markdowns.{Found}
use Rattle.msc_report.specs.declared.fault.Fault.TheVariants.{NotStarted, Memory, Device}
use Rattle.msc_place.specs.EventPositions.{EventPositionsIn}
use Rattle.msc_report.specs.Lists.{listed_text}
use Rattle.msc_report.specs.declared.pair.NamedFault.{NamedFault}
use Rattle.msc_report.specs.declared.style.Style.{Style}
use Rattle.msc_text.specs.Explaining.{PrintsReason}
use Rattle.msc_text.specs.Following.{PrintsFollowed}
use Rattle.msc_text.specs.Judging.{JudgesChart, Passes}
use Rattle.msc_text.specs.Readying.{PrintsReady}
use Rattle.msc_text.specs.declared.judging.ChartFormat.{ChartFormat}
use Rattle.msc_text.specs.declared.stick_format.StickFormat.{StickFormat}
use Rattle.msc_tool.specs.Running.{PrintsExecution}
use Rattle.msc_answer.specs.Charted.{ChartedText}
use Rattle.msc_answer.specs.Drafted.{IsReadBy, IsUnreadBy, PrintsBy, RefusesBy}
use Rattle.msc_answer.specs.Drawing.{PrintsLinkedPage, RefusesLinkedPage}
use Rattle.msc_answer.specs.Ending.{ended_by, ends_as, finished_by}
use Rattle.msc_answer.specs.Formats.{IsFormat, IsReadyFormat}
use Rattle.msc_answer.specs.Importing.{PrintsImportPage, RefusesImport}
use Rattle.msc_answer.specs.Marked.{has_marks, AreMarked, HasFaultyMark}
use Rattle.msc_answer.specs.Linked.{under, usual_in, AreLinked, HasLinkFault}
use Rattle.msc_answer.specs.Naming.{AreTwoNamed, IsNamedFault}
use Rattle.msc_answer.specs.Readied.{names_of, AreReady, IsFirstUnknown}
use Rattle.msc_answer.specs.Refused.{form_of, AreTold, TellsRefusal, TellsUnread}
use Rattle.msc_answer.specs.Reported.{reported_scenarios, PrintsReported}
use Rattle.msc_answer.specs.Rounds.{HasRoom, LacksRounds}
use Rattle.msc_answer.specs.Scenarios.{BeginsScenarios, PrintsScenarios, RefusesScenarios}
use Rattle.msc_answer.specs.Sited.{AreSited, IsStyle}
use Rattle.msc_answer.specs.Surveys.{many_in, refused_end, refused_text, BeginsSurvey, Surveys}
use Rattle.msc_answer.specs.declared.ending.Refusal.{Refusal}
use Rattle.msc_answer.specs.declared.ending.Refusal.TheVariants as refusals
use Rattle.msc_answer.specs.declared.ending.Status.{Status}
use Rattle.msc_answer.specs.declared.ending.Status.TheVariants.{Done}
use Rattle.msc_answer.specs.declared.chart_answers.Checked.{Checked}
use Rattle.msc_answer.specs.declared.tasks.ChartCommand.{ChartCommand}
use Rattle.msc_answer.specs.declared.tasks.CheckArgs.{CheckArgs}
use Rattle.msc_answer.specs.declared.tasks.ChartCommand.TheVariants.{Check, Quiet, Explain, Follow, Run, List as Listing, Ready}
use Rattle.msc_answer.specs.declared.tasks.QuietArgs.{QuietArgs}
use Rattle.msc_answer.specs.declared.tasks.ScenarioArgs.{ScenarioArgs}
use Rattle.msc_answer.specs.declared.tasks.LinkWords.{LinkWords}
use Rattle.msc_answer.specs.declared.tasks.Task.{Task}
use Rattle.msc_answer.specs.declared.tasks.Task.TheVariants.{Read, Chart, Draw, Import, Scenarios, Report}

-- What is printed of the races of the chart of a text, of the file of this name, and what was found.
abbrev pub PrintsRaces : CheckArgs → List ℕ → ChartedText → Checked → List ℕ → Type 0
PrintsRaces c file s one printed =
    (marks : Option (List Mark)) × AreMarked c.accept s.text marks × (one.marked ≡ has_marks marks)
    × (chart_format : ChartFormat) × IsFormat c file s marks chart_format × HasRoom c.again s.chart
    × JudgesChart s.chart c.queues c.options marks c.again chart_format one.judged printed

-- What is printed of the chart of a text, of the file of this name, for what is asked of it, and
-- how the run ends. A chart is run with a gate that is known to be open.
abbrev pub PrintsOf : ChartCommand → List ℕ → ChartedText → Status → List ℕ → Type 0
PrintsOf (Check c) file s status printed =
    (one : Checked) × (status ≡ ended_by (passes_in one.judged.totals)) × PrintsRaces c file s one printed
PrintsOf (Quiet x) file s status printed =
    (marks : Option (List Mark)) × AreMarked x.accept s.text marks × HasRoom x.again s.chart
    × (passed : Bool) × (status ≡ ended_by passed) × Passes s.chart x.queues x.allowed marks x.again passed × (printed ≡ [])
PrintsOf (Explain x) file s status printed =
    (e f : ℕ) × AreTwoNamed s x.first x.second e f × (style : Style) × IsStyle x.event_style file s style
    × (enforced : Bool) × (status ≡ ended_by enforced) × PrintsReason s.chart x.queues e f x.short style enforced printed
PrintsOf (Follow x) file s status printed =
    (style : Style) × IsStyle x.event_style file s style
    × (follows : Bool) × (status ≡ ended_by follows) × PrintsFollowed s.chart x.queues style follows printed
PrintsOf (Run queues patience) file s status printed =
    (finished : Bool) × (status ≡ finished_by finished) × PrintsExecution s.chart queues true patience finished printed
PrintsOf (Listing placed) file s status printed =
    (event_positions : Option EventPositionsIn) × AreSited (placed || is_some s.imported) file s event_positions × (status ≡ Done) × (printed ≡ listed_text s.chart event_positions)
PrintsOf (Ready x) file s status printed =
    (only : Option (List Bool)) × AreReady s.chart (names_of x) only × (stick_format : StickFormat) × IsReadyFormat x file s stick_format
    × HasRoom x.again s.chart × (passed : Bool) × (status ≡ ended_by passed) × PrintsReady s.chart x.queues only x.again x.show stick_format passed printed

-- the names of a pair that is asked for are those of no two events of the chart
abbrev pub RefusesPair : ChartCommand → ChartedText → NamedFault → Type 0
RefusesPair (Explain x) s fault = IsNamedFault s x.first x.second fault
RefusesPair ask s fault = ⊥

-- the marks of the text are asked, and this is the first faulty one
abbrev pub RefusesMark : ChartCommand → ChartedText → MarkFault → Type 0
RefusesMark (Check c) s fault = HasFaultyMark c.accept s.text fault
RefusesMark (Quiet x) s fault = HasFaultyMark x.accept s.text fault
RefusesMark ask s fault = ⊥

-- a name that is asked for is that of no instance, and is the first such
abbrev pub RefusesInstance : ChartCommand → Drawing → List ℕ → Type 0
RefusesInstance (Ready x) d name = IsFirstUnknown d (names_of x) name
RefusesInstance ask d name = ⊥

-- rounds of the chart are asked for, and this is why two are no chart
abbrev pub RefusesRounds : ChartCommand → Drawing → UnrollFault → Type 0
RefusesRounds (Check c) d fault = LacksRounds c.again d fault
RefusesRounds (Quiet x) d fault = LacksRounds x.again d fault
RefusesRounds (Ready x) d fault = LacksRounds x.again d fault
RefusesRounds ask d fault = ⊥

-- an instance of a chart that is to be run could not be started
abbrev pub FailsToStart : ChartCommand → Drawing → ℕ → Type 0
FailsToStart (Run queues patience) d i = i < length d.instances
FailsToStart ask d i = ⊥

-- why there is nothing to print of a chart for what is asked of it
abbrev pub RefusesOf : ChartCommand → ChartedText → Refusal → Type 0
RefusesOf ask s (refusals.Pair fault) = RefusesPair ask s fault
RefusesOf ask s (refusals.Mark fault) = RefusesMark ask s fault
RefusesOf ask s (refusals.Instance name) = RefusesInstance ask s.chart name.now
RefusesOf ask s (refusals.Rounds fault) = RefusesRounds ask s.chart fault
RefusesOf ask s (refusals.Fault (NotStarted i)) = FailsToStart ask s.chart i
RefusesOf ask s refusal = ⊥

-- what is printed of a chart for a command, under the queues that the rules and the text give
abbrev pub PrintsLinked : ChartCommand → LinkWords → List ℕ → ChartedText → Status → List ℕ → Type 0
PrintsLinked ask words file s status printed =
    (queues : Queues) × AreLinked (usual_in ask) words s queues × PrintsOf (under queues ask) file s status printed

-- why there is nothing to print: there are no queues, or the command is refused under them
abbrev pub RefusesLinked : ChartCommand → LinkWords → ChartedText → Refusal → Type 0
RefusesLinked ask words s (refusals.Link fault) = HasLinkFault words s fault
RefusesLinked ask words s refusal =
    (queues : Queues) × AreLinked (usual_in ask) words s queues × RefusesOf (under queues ask) s refusal

-- what is printed of the diagrams of a text: of all of them, if it holds such of which all are
-- checked; else of the one
abbrev pub PrintsDiagrams : Option Found → ScenarioArgs → List ℕ → List ℕ → Status → List ℕ → Type 0
PrintsDiagrams None x file text status printed = PrintsScenarios x file text status printed
PrintsDiagrams (Some f) x file text status printed = Surveys x file text f.numbers false false Done status printed

-- what begins that, where memory ran out
abbrev pub BeginsDiagrams : Option Found → ScenarioArgs → List ℕ → List ℕ → List ℕ → Type 0
BeginsDiagrams None x file text printed = BeginsScenarios x file text printed
BeginsDiagrams (Some f) x file text printed = BeginsSurvey x file text f.numbers printed

-- why nothing is printed of them: where all are checked, one that is refused keeps none from being
-- printed
abbrev pub RefusesDiagrams : Option Found → ScenarioArgs → List ℕ → Refusal → Type 0
RefusesDiagrams None x text refusal = RefusesScenarios x text refusal
RefusesDiagrams (Some f) x text refusal = ⊥

-- what is printed of the text of a file for a task: its draft's canonical text, or what is asked of
-- its chart
abbrev pub Prints : Task → List ℕ → List ℕ → Status → List ℕ → Type 0
Prints (Read chosen) file text status printed =
    (draft : Tree) × IsReadBy chosen text draft × (status ≡ Done) × (printed ≡ canonical draft)
Prints (Chart ask words) file text status printed =
    PrintsBy words.diagram text (λ draft s. PrintsLinked ask words.links file s) status printed
Prints (Draw drawn words) file text status printed =
    PrintsBy words.diagram text (PrintsLinkedPage drawn words.links) status printed
Prints (Import x) file text status printed = PrintsImportPage x file text status printed
Prints (Scenarios x) file text status printed = PrintsDiagrams (many_in x text) x file text status printed
Prints (Report x) file text status printed = (status ≡ Done) × PrintsReported x file text printed

-- why a text is refused for a task, with its first fault: it has no draft, or its draft is no
-- chart, or nothing is imported of it, or of its chart that is not to be had which is asked
abbrev pub Refuses : Task → List ℕ → Refusal → Type 0
Refuses (Read chosen) text refusal = IsUnreadBy chosen text refusal
Refuses (Chart ask words) text refusal = RefusesBy words.diagram text (RefusesLinked ask words.links) refusal
Refuses (Draw drawn words) text refusal = RefusesBy words.diagram text (RefusesLinkedPage drawn words.links) refusal
Refuses (Import x) text refusal = RefusesImport x.chosen text refusal
Refuses (Scenarios x) text refusal = RefusesDiagrams (many_in x text) x text refusal
Refuses (Report x) text refusal = RefusesScenarios (reported_scenarios x) text refusal

-- A task was done, where it is known what is right to print, with how the run ends then, what
-- begins it, and when it is refused: such a text went behind the known bytes of a writer; or memory
-- ran out, and the writer has had no call or has a beginning of a text that begins it; or the
-- writer failed; or it is refused, and the writer has had no call.
abbrev pub AnswersWith : {W A : Type 0} → (W → Option (List ℕ)) → (A → List ℕ → Type 0) → (List ℕ → Type 0) → (Refusal → Type 0)
    → Result A Refusal → W → W → Type 0
AnswersWith contents prints begins refuses (Ok a) old new =
    (printed : List ℕ) × prints a printed × Appends (contents old) (contents new) printed
AnswersWith {W} {A} contents prints begins refuses (Err (refusals.Fault Memory)) old new =
    (new ≡ old) ⊎ ((printed : List ℕ) × begins printed × WritesBeginning (contents old) (contents new) printed)
AnswersWith contents prints begins refuses (Err (refusals.Fault Device)) old new = Unit {0}
AnswersWith contents prints begins refuses (Err refusal) old new = refuses refusal × (new ≡ old)

-- the same, where what is right to print begins it
abbrev pub Answers : {W : Type 0} → (W → Option (List ℕ)) → (Status → List ℕ → Type 0) → (Refusal → Type 0)
    → Result Status Refusal → W → W → Type 0
Answers contents prints refuses = AnswersWith contents prints (λ printed. (status : Status) × prints status printed) refuses

-- what is asked of a chart was answered
abbrev pub AnswersOf : {W : Type 0} → (W → Option (List ℕ)) → ChartCommand → List ℕ → ChartedText → Result Status Refusal → W → W → Type 0
AnswersOf contents ask file s = Answers contents (PrintsOf ask file s) (RefusesOf ask s)

-- the races of a chart were printed
abbrev pub AnswersRaces : {W : Type 0} → (W → Option (List ℕ)) → CheckArgs → List ℕ → ChartedText → Result Checked Refusal → W → W → Type 0
AnswersRaces contents c file s =
    AnswersWith contents (PrintsRaces c file s) (λ printed. (one : Checked) × PrintsRaces c file s one printed) (RefusesOf (Check c) s)

-- how a run ends that tells whether no race counts, without a text
abbrev pub TellsQuietly : QuietArgs → ChartedText → Result Status Refusal → Type 0
TellsQuietly x s (Ok status) = PrintsOf (Quiet x) [] s status []
TellsQuietly x s (Err (refusals.Fault Memory)) = Unit {0}
TellsQuietly x s (Err (refusals.Mark fault)) = HasFaultyMark x.accept s.text fault
TellsQuietly x s (Err (refusals.Rounds fault)) = LacksRounds x.again s.chart fault
TellsQuietly x s (Err refusal) = ⊥

-- what begins what is printed of the text of a file for a task: of scenarios what is printed of the
-- first of them, of diagrams what is of the first of these, else that itself
abbrev pub Begins : Task → List ℕ → List ℕ → List ℕ → Type 0
Begins (Scenarios x) file text printed = BeginsDiagrams (many_in x text) x file text printed
Begins task file text printed = (status : Status) × Prints task file text status printed

-- a task was done for the text of a file
abbrev pub Does : {W : Type 0} → (W → Option (List ℕ)) → Task → List ℕ → List ℕ → Result Status Refusal → W → W → Type 0
Does contents task file text = AnswersWith contents (Prints task file text) (Begins task file text) (Refuses task text)

-- A task was done for the text of a file, and where it was refused that was told: where memory ran
-- out or the writer failed, it is left as that.
abbrev pub Delivers : {W : Type 0} → (W → Option (List ℕ)) → Task → List ℕ → List ℕ → Result Status Refusal → W → W → Type 0
Delivers contents task file text (Ok status) old new = Does contents task file text (Ok status) old new
Delivers contents task file text (Err (refusals.Fault Memory)) old new = Does contents task file text (Err (refusals.Fault Memory)) old new
Delivers contents task file text (Err (refusals.Fault Device)) old new = Unit {0}
Delivers contents task file text (Err refusal) old new =
    Refuses task text refusal × TellsRefusal contents task file text refusal old new

-- a file was not read: memory ran out, or a device failed
abbrev pub IsUnread : Result Status Refusal → Type 0
IsUnread (Err (refusals.Fault Memory)) = Unit {0}
IsUnread (Err (refusals.Fault Device)) = Unit {0}
IsUnread answer = ⊥

-- a task was done for a text that was read so, or nothing was read
abbrev pub Performs : {W : Type 0} → (W → Option (List ℕ)) → Task → List ℕ → (List ℕ → Type 0) → Result Status Refusal → W → W → Type 0
Performs contents task file reads answer old new =
    ((text : List ℕ) × reads text × Delivers contents task file text answer old new) ⊎ (IsUnread answer × TellsUnread task old new)

-- how a run ends whose task was done so
abbrev pub ends_with : Result Status Refusal → Status
ends_with (Ok status) = status
ends_with (Err refusal) = ends_as refusal

-- a run ends as it has to whose task was done so
abbrev pub EndsAs : {W : Type 0} → (W → Option (List ℕ)) → Task → List ℕ → (List ℕ → Type 0) → Status → W → W → Type 0
EndsAs contents task file reads status old new =
    (answer : Result Status Refusal) × (status ≡ ends_with answer) × Performs contents task file reads answer old new

-- these bytes went behind the known bytes of a writer, and the run ends so, or the writer failed
abbrev pub IsPut : {W : Type 0} → (W → Option (List ℕ)) → List ℕ → Status → Result Status Refusal → W → W → Type 0
IsPut contents bytes status (Ok s) old new = (s ≡ status) × Appends (contents old) (contents new) bytes
IsPut contents bytes status (Err refusal) old new = refusal ≡ refusals.Fault Device

-- A diagram of several that is refused was told so: its text, its lines and what follows them went
-- behind the known bytes of a writer; or memory ran out, with nothing, its text or its lines behind
-- them; or the writer failed.
abbrev pub TellsBlock : {W : Type 0} → (W → Option (List ℕ)) → ScenarioArgs → List ℕ → List ℕ → ℕ → Refusal
    → Result (Unit {0}) Refusal → W → W → Type 0
TellsBlock contents x file text n refusal (Ok u) old new =
    (lines : List ℕ) × AreTold (form_of (Scenarios x)) file text refusal lines × Appends (contents old) (contents new) (refused_text x file n ++ (lines ++ refused_end x))
TellsBlock contents x file text n refusal (Err other) old new =
    ((other ≡ refusals.Fault Memory) × ((new ≡ old) ⊎ (Appends (contents old) (contents new) (refused_text x file n)
    ⊎ ((lines : List ℕ) × AreTold (form_of (Scenarios x)) file text refusal lines × Appends (contents old) (contents new) (refused_text x file n ++ lines)))))
    ⊎ (other ≡ refusals.Fault Device)

-- What the output gets of a refusal: nothing, lines for editors, or the refusal as people read it.
use Rattle.std.specs.Prelude.{◌≡◌, ◌⊎◌, ℕ, [], ◌++◌, Bool, true, false, cond, List, Option, None, Some, Result, Ok, Err}
use Rattle.std.specs.Io.KnownBytes.{Appends}
use Rattle.msc_import_notes.specs.Places.{fault_line}
use Rattle.msc_mark.specs.declared.fault.MarkFault.{MarkFault}
use Rattle.msc_mark.specs.declared.fault.MarkFault.TheVariants as marks
use Rattle.msc_notes.specs.Faults.{parse_place, IsChartPlace}
use Rattle.msc_notes.specs.Texts.{error_text, IsFaultPosition}
use Rattle.msc_parser.specs.Grammar.{Tree}
use Rattle.msc_parser.specs.Parsing.{HasDraft, HasParseFault}
use Rattle.msc_place.specs.EventPositions.{beginning}
use Rattle.msc_place.specs.declared.position.Position.{Position}
use Rattle.msc_report.specs.declared.fault.Fault.TheVariants.{Parse, Chart, Memory, Device}
use Rattle.msc_answer.specs.Ending.{refusal_line}
use Rattle.msc_answer.specs.RefusedWords.{AreWords}
use Rattle.msc_answer.specs.declared.own.LinkRefusal.{LinkRefusal}
use Rattle.msc_answer.specs.declared.own.LinkRefusal.TheVariants.{Given, Text, Unclear}
use Rattle.msc_answer.specs.declared.ending.Refusal.{Refusal}
use Rattle.msc_answer.specs.declared.ending.Refusal.TheVariants as refusals
use Rattle.msc_answer.specs.declared.tasks.ChartCommand.TheVariants.{Check, Ready}
use Rattle.msc_answer.specs.declared.tasks.Format.{Format}
use Rattle.msc_answer.specs.declared.tasks.Format.TheVariants as formats
use Rattle.msc_answer.specs.declared.tasks.RefusalForm.{RefusalForm}
use Rattle.msc_answer.specs.declared.tasks.RefusalForm.TheVariants as forms
use Rattle.msc_answer.specs.declared.tasks.Task.{Task}
use Rattle.msc_answer.specs.declared.tasks.Task.TheVariants as tasks

-- the place of a faulty comment
abbrev pub mark_place : MarkFault → Option ℕ
mark_place (marks.Part at) = Some at
mark_place (marks.Reason at) = Some at
mark_place marks.Memory = None

-- this is the place of a refusal of the text, or it has none
abbrev pub IsPlaceOf : List ℕ → Refusal → Option ℕ → Type 0
IsPlaceOf text (refusals.Fault (Parse f)) place = HasParseFault text f → place ≡ parse_place f
IsPlaceOf text (refusals.Fault (Chart f)) place = (t : Tree) → HasDraft text t → IsChartPlace text t f place
IsPlaceOf text (refusals.Mark f) place = place ≡ mark_place f
IsPlaceOf text refusal place = place ≡ None

-- this is the position of why there are no queues: the beginning of the text if the command line is
-- faulty, else that of the comment in which the text names its queues
abbrev pub IsLinkPosition : LinkRefusal → Position → Type 0
IsLinkPosition (Given fault) p = p ≡ beginning
IsLinkPosition (Text fault place) p = p ≡ place.position
IsLinkPosition (Unclear place) p = p ≡ place.position

-- this is the position of a refusal of the text: of a fault of an import one on its line; of a faulty
-- mark of a diagram its own; else that of its place, or the beginning of the text where it has none
abbrev pub IsRefusalPosition : List ℕ → Refusal → Position → Type 0
IsRefusalPosition text (refusals.Import e) p = p.line ≡ fault_line e.fault
IsRefusalPosition text (refusals.Link fault) p = IsLinkPosition fault p
IsRefusalPosition text (refusals.ArrowMark r) p = p ≡ r.position
IsRefusalPosition text refusal p = (place : Option ℕ) × IsPlaceOf text refusal place × IsFaultPosition text place p

-- The lines of a refusal of the text of a file: the first is its fixed line behind its position;
-- notes and further faults follow.
pub record IsRefusalText (file text : List ℕ) (refusal : Refusal) (printed : List ℕ) : Type 0 where
  pub position : Position
  pub stands : IsRefusalPosition text refusal position
  pub more : List ℕ
  pub printed_is : printed ≡ error_text file position ++ (refusal_line refusal ++ more)

-- what is printed of a refusal in a form
abbrev pub AreTold : RefusalForm → List ℕ → List ℕ → Refusal → List ℕ → Type 0
AreTold forms.Nothing file text refusal printed = printed ≡ []
AreTold forms.Lines file text refusal printed = IsRefusalText file text refusal printed
AreTold (forms.Words colours) file text refusal printed = AreWords colours file text refusal printed

-- what the output gets of a refusal in a form
abbrev pub TellsIn : {W : Type 0} → (W → Option (List ℕ)) → RefusalForm → List ℕ → List ℕ → Refusal → W → W → Type 0
TellsIn contents forms.Nothing file text refusal old new = new ≡ old
TellsIn contents form file text refusal old new =
    (printed : List ℕ) × AreTold form file text refusal printed × Appends (contents old) (contents new) printed

-- the form of refusals in a format, with or without colours
abbrev pub form_in : Format → Bool → RefusalForm
form_in formats.Text colours = forms.Nothing
form_in formats.Count colours = forms.Nothing
form_in formats.Lines colours = forms.Lines
form_in formats.Full colours = forms.Words colours

-- the form of refusals of a task
abbrev pub form_of : Task → RefusalForm
form_of (tasks.Chart (Check c) links) = form_in c.format c.colours
form_of (tasks.Chart (Ready x) links) = form_in x.format x.colours
form_of (tasks.Scenarios x) = cond x.quiet forms.Nothing (form_in x.check_args.format x.check_args.colours)
form_of task = forms.Nothing

-- what the output gets of a refusal of a task
abbrev pub TellsRefusal : {W : Type 0} → (W → Option (List ℕ)) → Task → List ℕ → List ℕ → Refusal → W → W → Type 0
TellsRefusal contents task file text refusal old new = TellsIn contents (form_of task) file text refusal old new

-- of a file that could not be read the output gets nothing, or as much as it took of what the form has
abbrev pub TellsUnreadIn : {W : Type 0} → RefusalForm → W → W → Type 0
TellsUnreadIn forms.Nothing old new = new ≡ old
TellsUnreadIn form old new = Unit {0}

abbrev pub TellsUnread : {W : Type 0} → Task → W → W → Type 0
TellsUnread task old new = TellsUnreadIn (form_of task) old new

-- memory ran out, or a device failed: nothing is refused
abbrev pub is_spent : Refusal → Bool
is_spent (refusals.Fault Memory) = true
is_spent (refusals.Fault Device) = true
is_spent refusal = false

-- what telling it answers: it was told, or memory ran out before that, or the output failed
abbrev pub IsToldIn : {W : Type 0} → (W → Option (List ℕ)) → RefusalForm → List ℕ → List ℕ → Refusal → Result (Unit {0}) Refusal → W → W → Type 0
IsToldIn contents form file text refusal (Ok u) old new = TellsIn contents form file text refusal old new
IsToldIn contents form file text refusal (Err other) old new =
    ((other ≡ refusals.Fault Memory) × (new ≡ old)) ⊎ (other ≡ refusals.Fault Device)

-- A refusal was told in a form, or memory ran out before that or the output failed, which is
-- answered then.
abbrev pub TellsOr : {W : Type 0} → (W → Option (List ℕ)) → RefusalForm → List ℕ → List ℕ → Refusal → Refusal → W → W → Type 0
TellsOr contents form file text refusal told old new =
    ((told ≡ refusal) × TellsIn contents form file text refusal old new)
    ⊎ (((told ≡ refusals.Fault Memory) × (new ≡ old)) ⊎ (told ≡ refusals.Fault Device))

-- what is answered where a task is refused: where nothing is, it is left as that
abbrev pub TellsThat : {W : Type 0} → (W → Option (List ℕ)) → RefusalForm → List ℕ → List ℕ → Refusal → Refusal → W → W → Type 0
TellsThat contents form file text refusal told old new =
    ((is_spent refusal ≡ true) × (told ≡ refusal) × (new ≡ old))
    ⊎ ((is_spent refusal ≡ false) × TellsOr contents form file text refusal told old new)

-- What is answered of all sequence diagrams of a Markdown text: one after the other, in the order
-- of their numbers.
use Rattle.std.specs.Prelude.{◌≡◌, ◌⊎◌, ◌-◌, ◌++◌, ◌||◌, ◌&&◌, ℕ, Bool, false, cond, not, nat_eq, nat_le, nat_lt, List, [], ◌∷◌, length, map, Option, None, Some, Result, Ok, Err, codes}
use Rattle.std.specs.Fmt.{decimal}
use Rattle.msc_findings.specs.declared.format.Following.TheVariants.{Blank}
use Rattle.msc_findings.specs.Closing.{marked_help}
use Rattle.msc_import.specs.Drafting.{chart_name}
use Rattle.msc_judge.specs.declared.options.CheckOptions.{CheckOptions}
use Rattle.msc_markdown.specs.Markdowns.{Found, markdown}
use Rattle.msc_mermaid.specs.declared.fault.ImportFault.{ImportFault}
use Rattle.msc_place.specs.Texts.{shown_byte}
use Rattle.msc_wording.specs.declared.closing.MarkedText.TheVariants as texts
use Rattle.msc_report.specs.Texts.{text_line}
use Rattle.msc_answer.specs.Ending.{status_code}
use Rattle.msc_answer.specs.Refused.{form_of, AreTold}
use Rattle.msc_answer.specs.Tasks.{is_full}
use Rattle.msc_answer.specs.Scenarios.{with_fence, BeginsAll, IsToldOf, OfScenarios, PrintsCounted, RefusesScenarios}
use Rattle.msc_answer.specs.ShownDiagrams.{line_in}
use Rattle.msc_answer.specs.declared.ending.Refusal.{Refusal}
use Rattle.msc_answer.specs.declared.ending.Status.{Status}
use Rattle.msc_answer.specs.declared.ending.Status.TheVariants.{Refused}
use Rattle.msc_answer.specs.declared.scenarios.Surveyed.{Surveyed}
use Rattle.msc_answer.specs.declared.scenarios.Told.{Told}
use Rattle.msc_answer.specs.declared.tasks.Format.{Format}
use Rattle.msc_answer.specs.declared.tasks.Format.TheVariants as formats
use Rattle.msc_answer.specs.declared.tasks.ScenarioArgs.{ScenarioArgs}
use Rattle.msc_answer.specs.declared.tasks.Task.TheVariants as tasks

-- what a text holds that has sequence diagrams and is none itself
abbrev pub many_of : Found → Option Found
many_of f = cond (f.whole || nat_eq (length f.numbers) 0) None (Some f)

-- the same, if no number of a diagram is given and the text is not too long
abbrev pub many_found : Option ℕ → Result Found ImportFault → Option Found
many_found None (Ok f) = many_of f
many_found None (Err fault) = None
many_found (Some n) found = None

-- what a text holds of which all sequence diagrams are checked, if they are
abbrev pub many_in : ScenarioArgs → List ℕ → Option Found
many_in x text = many_found x.diagram.fence (markdown text)

-- the words for the diagram of this number
abbrev pub at_block : ScenarioArgs → ℕ → ScenarioArgs
at_block x n = with_fence (Some n) x

-- the words for the diagrams that follow so many listed races: `--most` and `--show` count over all
-- diagrams
abbrev pub options_after : CheckOptions → ℕ → CheckOptions
options_after q listed = record q { most = q.most - listed; show = q.show - listed }

abbrev pub behind : ScenarioArgs → ℕ → ScenarioArgs
behind x listed = record x { check_args = record x.check_args { options = options_after x.check_args.options listed } }

-- a name with the number of a diagram
abbrev pub numbered : List ℕ → ℕ → List ℕ
numbered name n = name ++ (codes "#" ++ decimal n)

-- what is printed of the diagram of this number: as of the text with this number, but for the names
abbrev pub PrintsBlock : ScenarioArgs → List ℕ → List ℕ → ℕ → Surveyed → List ℕ → Type 0
PrintsBlock x file text n one printed =
    OfScenarios (at_block x n) file text (λ c name scenarios. (t : Told)
    × IsToldOf (at_block x n) file text (numbered name n) (numbered file n) (line_in (Some n) text) Blank t
    × PrintsCounted x.quiet c t scenarios one printed)

-- what that begins with, where memory ran out
abbrev pub BeginsBlock : ScenarioArgs → List ℕ → List ℕ → ℕ → List ℕ → Type 0
BeginsBlock x file text n printed =
    OfScenarios (at_block x n) file text (λ c name scenarios. (t : Told)
    × IsToldOf (at_block x n) file text (numbered name n) (numbered file n) (line_in (Some n) text) Blank t
    × BeginsAll x.quiet c t scenarios printed)

-- what is printed of a diagram of this name that is refused, in the file of this one
abbrev pub refused_in : Format → List ℕ → List ℕ → List ℕ
refused_in formats.Text name file = codes "diagram " ++ (name ++ codes "\nrefused\n")
refused_in formats.Count name file = codes "refused " ++ text_line (map shown_byte file)
refused_in formats.Lines name file = []
refused_in formats.Full name file = []

abbrev pub refused_text : ScenarioArgs → List ℕ → ℕ → List ℕ
refused_text x file n =
    cond x.quiet [] (refused_in x.check_args.format (numbered (chart_name x.diagram.name.now) n) (numbered file n))

-- what follows a refused diagram: an empty line, in findings as people read them
abbrev pub refused_end : ScenarioArgs → List ℕ
refused_end x = cond (not x.quiet && is_full x.check_args.format) (codes "\n") []

-- what follows all diagrams, if races of one of them are listed or not, and a mark was met or not: the
-- help on marks, in findings as people read them
abbrev pub survey_end : ScenarioArgs → Bool → Bool → List ℕ
survey_end x is_listed is_marked =
    cond (is_listed && (not is_marked && (not x.quiet && is_full x.check_args.format))) (marked_help texts.Diagram x.check_args.colours) []

-- the diagram of this number is refused: behind its text stands what the form has of the refusal
pub record TellsRefusedBlock (x : ScenarioArgs) (file text : List ℕ) (n : ℕ) (one : Surveyed) (printed : List ℕ) : Type 0 where
  pub refusal : Refusal
  pub refused : RefusesScenarios (at_block x n) text refusal
  pub ends : one ≡ record { status = Refused; listed = 0; accepted = 0; marked = false }
  pub lines : List ℕ
  pub are : AreTold (form_of (tasks.Scenarios x)) file text refusal lines
  pub text_is : printed ≡ refused_text x file n ++ (lines ++ refused_end x)

-- what is printed of the diagram of this number, refused or not, and how its check ends
abbrev pub SurveysOne : ScenarioArgs → List ℕ → List ℕ → ℕ → Surveyed → List ℕ → Type 0
SurveysOne x file text n one printed =
    PrintsBlock x file text n one printed ⊎ TellsRefusedBlock x file text n one printed

-- what that begins with, where memory ran out
abbrev pub BeginsOne : ScenarioArgs → List ℕ → List ℕ → ℕ → List ℕ → Type 0
BeginsOne x file text n printed =
    BeginsBlock x file text n printed
    ⊎ ((refusal : Refusal) × RefusesScenarios (at_block x n) text refusal
    × ((printed ≡ refused_text x file n)
    ⊎ ((lines : List ℕ) × AreTold (form_of (tasks.Scenarios x)) file text refusal lines × (printed ≡ refused_text x file n ++ lines))))

-- the worse of two ends: the one with the greater exit status
abbrev pub worse : Status → Status → Status
worse one other = cond (nat_le (status_code other) (status_code one)) one other

-- What is printed of the diagrams of these numbers, one after the other, and how the run ends, if
-- races are listed before them or not, and a mark was met or not, and the worst end before them is
-- this one.
unfoldable pub Surveys : ScenarioArgs → List ℕ → List ℕ → List ℕ → Bool → Bool → Status → Status → List ℕ → Type 0
Surveys x file text [] is_listed is_marked worst status printed = (status ≡ worst) × (printed ≡ survey_end x is_listed is_marked)
Surveys x file text (n ∷ ns) is_listed is_marked worst status printed =
    (one : Surveyed) × (first rest : List ℕ) × SurveysOne x file text n one first
    × Surveys (behind x one.listed) file text ns (is_listed || nat_lt 0 one.listed) (is_marked || one.marked) (worse worst one.status) status rest × (printed ≡ first ++ rest)

-- what that begins with, where memory ran out: all of some first diagrams, and then nothing or what
-- begins what is printed of the next
unfoldable pub BeginsSurvey : ScenarioArgs → List ℕ → List ℕ → List ℕ → List ℕ → Type 0
BeginsSurvey x file text [] printed = printed ≡ []
BeginsSurvey x file text (n ∷ ns) printed =
    (printed ≡ []) ⊎ (BeginsOne x file text n printed
    ⊎ ((one : Surveyed) × (first rest : List ℕ) × SurveysOne x file text n one first
    × BeginsSurvey (behind x one.listed) file text ns rest × (printed ≡ first ++ rest)))

-- What is printed of a refused text, and of a path that fails.
use Rattle.std.specs.Prelude.{◌≡◌, ℕ, Bool, true, false, List, [], ◌++◌, map, Option, None, Result, Ok, Err, codes}
use Rattle.std.specs.Io.KnownBytes.{Appends}
use Rattle.msc_answer.specs.Ending.{refusal_line}
use Rattle.msc_answer.specs.Refused.{is_spent, IsRefusalText as AreRefusalLines}
use Rattle.msc_answer.specs.RefusedWords.{AreWords}
use Rattle.msc_answer.specs.declared.ending.Refusal.{Refusal}
use Rattle.msc_answer.specs.declared.ending.Status.{Status}
use Rattle.msc_answer.specs.declared.ending.Status.TheVariants.{Refused, Failed}
use Rattle.msc_answer.specs.declared.tasks.Format.{Format}
use Rattle.msc_answer.specs.declared.tasks.Format.TheVariants as formats
use Rattle.msc_place.specs.Texts.{shown_byte}
use Rattle.msc_report.specs.Texts.{text_line}
use Rattle.msc_report.specs.declared.fault.Fault.{Fault}
use Rattle.msc_scanning.specs.Putting.{header}
use Rattle.msc_scanning.specs.declared.outcome.Outcome.{Outcome}
use Rattle.msc_scanning.specs.declared.words.Plan.{Plan}

-- the end of a text that was not checked
abbrev pub ended : Status → Outcome
ended status = record { status = status; races = false; accepted = 0; silent = false; marked = false; help = None }

-- bytes follow others
abbrev pub Grows : List ℕ → List ℕ → Type 0
Grows old new = (more : List ℕ) × (new ≡ old ++ more)

-- a refusal in text: the line that names the text, the fixed line, and what follows as notes
abbrev pub IsRefusalText : Plan → List ℕ → Refusal → List ℕ → Type 0
IsRefusalText p label refusal printed = (notes : List ℕ) × (printed ≡ (header p label false ++ refusal_line refusal) ++ notes)

-- a refusal as people read it, with an empty line behind it
abbrev pub IsRefusalBlock : Plan → List ℕ → List ℕ → Refusal → List ℕ → Type 0
IsRefusalBlock p file text refusal printed =
    (words : List ℕ) × AreWords p.args.words.check_args.colours file text refusal words × (printed ≡ words ++ codes "\n")

-- a refusal in a format
abbrev pub IsRefusalIn : Format → Plan → List ℕ → List ℕ → List ℕ → Refusal → List ℕ → Type 0
IsRefusalIn formats.Text p label file text refusal printed = IsRefusalText p label refusal printed
IsRefusalIn formats.Count p label file text refusal printed = printed ≡ codes "refused " ++ text_line (map shown_byte label)
IsRefusalIn formats.Lines p label file text refusal printed = AreRefusalLines file text refusal printed
IsRefusalIn formats.Full p label file text refusal printed = IsRefusalBlock p file text refusal printed

-- and if something is printed of texts at all
abbrev pub IsRefusalIf : Bool → Plan → List ℕ → List ℕ → List ℕ → Refusal → List ℕ → Type 0
IsRefusalIf true p label file text refusal printed = printed ≡ []
IsRefusalIf false p label file text refusal printed = IsRefusalIn p.args.words.check_args.format p label file text refusal printed

abbrev pub IsRefusalPage : Plan → List ℕ → List ℕ → List ℕ → Refusal → List ℕ → Type 0
IsRefusalPage p label file text refusal printed = IsRefusalIf p.args.words.quiet p label file text refusal printed

-- a refusal was told, or it is the fault for which a scan ends
abbrev pub AnswersRefusal : {W : Type 0} → (W → Option (List ℕ)) → Plan → List ℕ → List ℕ → List ℕ → Refusal → Result Outcome Fault → W → W → Type 0
AnswersRefusal contents p label file text refusal (Ok outcome) old new =
    (is_spent refusal ≡ false) × (outcome ≡ ended Refused)
    × ((printed : List ℕ) × IsRefusalPage p label file text refusal printed × Appends (contents old) (contents new) printed)
AnswersRefusal contents p label file text refusal (Err fault) old new = Unit {0}

-- a path that fails is told in some bytes, if something is printed of texts at all
abbrev pub PutsFailed : Plan → Outcome → List ℕ → Type 0
PutsFailed p outcome printed = (outcome ≡ ended Failed) × (p.args.words.quiet ≡ true → printed ≡ [])

-- What is printed of a chart or a diagram under the architectures of a scan.
use Rattle.std.specs.Prelude.{◌≡◌, ℕ, Bool, true, false, ◌||◌, ◌&&◌, not, cond, max, nat_lt, List, [], ◌∷◌, ◌++◌, length, map, Option, None, Some, Result, Ok, Err, codes}
use Rattle.std.specs.Io.KnownBytes.{Appends}
use Rattle.msc_answer.specs.Verdicts.{PrintsVerdict, RefusesVerdict, Yields}
use Rattle.msc_answer.specs.declared.ending.Refusal.{Refusal}
use Rattle.msc_answer.specs.declared.ending.Status.{Status}
use Rattle.msc_answer.specs.declared.ending.Status.TheVariants.{Done, Races, Refused, Unfinished, Failed}
use Rattle.msc_answer.specs.declared.tasks.Format.{Format}
use Rattle.msc_answer.specs.declared.tasks.Format.TheVariants as formats
use Rattle.msc_answer.specs.declared.verdicts.Verdict.{Verdict}
use Rattle.msc_chart.specs.Architectures.{queues_word}
use Rattle.msc_chart.specs.declared.queue.Queues.{Queues}
use Rattle.msc_place.specs.Texts.{shown_byte}
use Rattle.msc_wording.specs.declared.closing.MarkedText.{MarkedText}
use Rattle.msc_scanning.specs.Folding.{Folds}
use Rattle.msc_scanning.specs.Naming.{with_name, HasNames}
use Rattle.msc_scanning.specs.declared.outcome.Outcome.{Outcome}
use Rattle.msc_scanning.specs.declared.putting.Seen.{Seen}
use Rattle.msc_scanning.specs.declared.putting.Target.{Target}
use Rattle.msc_scanning.specs.declared.words.Plan.{Plan}

-- something was printed: of what was answered it is known what is right to print, and such a text went
-- behind the known bytes of a writer; where that failed nothing is known
abbrev pub Gives : {W A E : Type 0} → (W → Option (List ℕ)) → (A → List ℕ → Type 0) → Result A E → W → W → Type 0
Gives contents prints (Ok a) old new = (printed : List ℕ) × prints a printed × Appends (contents old) (contents new) printed
Gives contents prints (Err e) old new = Unit {0}

-- races count or marks are stale
abbrev pub has_findings : Status → Bool
has_findings Done = false
has_findings Races = true
has_findings Refused = false
has_findings Unfinished = false
has_findings Failed = false

-- a verdict is printed in this form: always in lines for editors; in findings as people read them if
-- it has some; else if it does not pass, or what passes is not left out
abbrev pub shown_in : Format → Bool → Bool → Bool → Bool
shown_in formats.Text only_races found never = found || not only_races
shown_in formats.Count only_races found never = found || not only_races
shown_in formats.Lines only_races found never = true
shown_in formats.Full only_races found never = found || never

abbrev pub is_shown : Plan → Verdict → Bool
is_shown p verdict =
    not p.args.words.quiet && shown_in p.args.words.check_args.format p.args.only_races (has_findings verdict.status) verdict.never

-- the words name several architectures
abbrev pub has_several : Plan → Bool
has_several p = nat_lt 1 (length p.architectures.now)

-- what is printed under an architecture has no name of it
abbrev pub plain_in : Format → Bool → Bool
plain_in formats.Text several = true
plain_in formats.Count several = not several
plain_in formats.Lines several = not several
plain_in formats.Full several = true

abbrev pub is_plain : Plan → Bool
is_plain p = plain_in p.args.words.check_args.format (has_several p)

-- the line that names a text, in text; `shown` tells whether something was printed of it before
abbrev pub header_in : Format → List ℕ → Bool → List ℕ
header_in formats.Text label shown = cond shown [] (codes "file " ++ (map shown_byte label ++ codes "\n"))
header_in formats.Count label shown = []
header_in formats.Lines label shown = []
header_in formats.Full label shown = []

abbrev pub header : Plan → List ℕ → Bool → List ℕ
header p label shown = header_in p.args.words.check_args.format label shown

-- what is printed under an architecture of this word, by what `check` prints
abbrev pub IsSaidIn : Format → Bool → List ℕ → List ℕ → List ℕ → Type 0
IsSaidIn formats.Text several word bytes said = said ≡ bytes
IsSaidIn formats.Count true word bytes said = said ≡ with_name word bytes
IsSaidIn formats.Count false word bytes said = said ≡ bytes
IsSaidIn formats.Lines true word bytes said = HasNames word bytes said
IsSaidIn formats.Lines false word bytes said = said ≡ bytes
IsSaidIn formats.Full several word bytes said = said ≡ bytes

abbrev pub IsSaid : Plan → Queues → List ℕ → List ℕ → Type 0
IsSaid p queues bytes said = IsSaidIn p.args.words.check_args.format (has_several p) (queues_word queues) bytes said

-- what is printed of a verdict, by what `check` prints, if it is shown
abbrev pub IsPutIf : Bool → Plan → List ℕ → Queues → Bool → List ℕ → List ℕ → Type 0
IsPutIf false p label queues shown bytes printed = printed ≡ []
IsPutIf true p label queues shown bytes printed = (said : List ℕ) × IsSaid p queues bytes said × (printed ≡ header p label shown ++ said)

abbrev pub IsPut : Plan → List ℕ → Queues → Bool → Verdict → List ℕ → List ℕ → Type 0
IsPut p label queues shown verdict bytes printed = IsPutIf (is_shown p verdict) p label queues shown bytes printed

-- that went behind the known bytes of a writer
abbrev pub PutsShown : {W : Type 0} → (W → Option (List ℕ)) → Plan → List ℕ → Queues → Bool → Verdict → List ℕ → W → W → Type 0
PutsShown contents p label queues shown verdict bytes old new =
    (printed : List ℕ) × IsPut p label queues shown verdict bytes printed × Appends (contents old) (contents new) printed

-- what is printed of a chart or a diagram under an architecture, and the verdict
abbrev pub PutsVerdict : Plan → Target → Queues → Bool → Verdict → List ℕ → Type 0
PutsVerdict p target queues shown verdict printed =
    (bytes : List ℕ) × PrintsVerdict p.args.words.check_args queues target.file.now target.subject verdict bytes
    × IsPut p target.label.now queues shown verdict bytes printed

-- a verdict of which nothing is printed
abbrev pub IsQuietVerdict : Plan → Target → Queues → Result Verdict Refusal → Type 0
IsQuietVerdict p target queues result =
    Yields {W = Unit {0}} (λ w. None) (PrintsVerdict p.args.words.check_args queues target.file.now target.subject)
    (RefusesVerdict p.args.words.check_args queues target.subject) result tt tt

-- what was found of a text of which nothing was checked
abbrev pub unseen : Bool → Seen
unseen silent = record {
  outcome = record { status = Done; races = false; accepted = 0; silent = silent; marked = false; help = None };
  shown = false;
}

-- with one more verdict, where races of the text are accepted so: the worst status, all races and
-- marks, and the greatest number of accepted races
abbrev pub with_found : MarkedText → Outcome → Verdict → Outcome
with_found help o verdict = record {
  status = cond (has_findings verdict.status) verdict.status o.status;
  races = o.races || verdict.races;
  accepted = max o.accepted verdict.accepted;
  silent = o.silent;
  marked = o.marked || verdict.marked;
  help = cond verdict.listed (Some help) o.help;
}

abbrev pub with_verdict : Plan → MarkedText → Seen → Verdict → Seen
with_verdict p help seen verdict = record { outcome = with_found help seen.outcome verdict; shown = seen.shown || is_shown p verdict }

-- what is printed under one more architecture
abbrev pub Sees : Plan → Target → Queues → Seen → Seen → List ℕ → Type 0
Sees p target queues seen next printed =
    (verdict : Verdict) × (next ≡ with_verdict p target.help seen verdict) × PutsVerdict p target queues seen.shown verdict printed

-- what is printed under these architectures, and what was found
abbrev pub PutsEach : Plan → Target → Bool → List Queues → Outcome → List ℕ → Type 0
PutsEach p target silent queues outcome printed =
    (end : Seen) × (outcome ≡ end.outcome) × Folds (Sees p target) queues (unseen silent) end printed

-- why nothing is: the text is refused under the first of them
abbrev pub RefusesFirst : Plan → Target → List Queues → Refusal → Type 0
RefusesFirst p target [] refusal = ⊥
RefusesFirst p target (queues ∷ others) refusal = RefusesVerdict p.args.words.check_args queues target.subject refusal

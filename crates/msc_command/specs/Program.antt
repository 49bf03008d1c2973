-- What the program does with its words.
use Rattle.std.specs.Prelude.{◌≡◌, ◌≢◌, false, ◌⊎◌, ℕ, List, MatchOption, Option, Some, codes}
use Rattle.std.specs.Io.KnownBytes.{Appends}
use Rattle.clap.specs.Words.{Row, Text, rows_of, subcommand_rows_of}
use Rattle.clap.specs.declared.error.kind.ErrorKind.{ErrorKind}
use Rattle.clap.specs.declared.error.kind.ErrorKind.TheVariants.{DisplayHelp, DisplayVersion, OutOfMemory}
use Rattle.clap.specs.declared.parser.matches.ArgMatches.{ArgMatches}
use Rattle.clap.specs.declared.parser.matches.Found.{Found}
use Rattle.msc_markdown.specs.Markdowns.{Found as Markdown}
use Rattle.msc_source.specs.Inputs.{IsReadFrom}
use Rattle.msc_answer.specs.Answering.{EndsAs, Prints}
use Rattle.msc_command.specs.Asking.{file_of, IsTwofold}
use Rattle.msc_command.specs.Grammar.{AreAnswered, AreTaken}
use Rattle.msc_command.specs.Invocations.{Invokes}
use Rattle.msc_command.specs.Misuses.{IsNoCommand}
use Rattle.msc_answer.specs.Refused.{AreTold}
use Rattle.msc_answer.specs.Surveys.{many_in, Surveys}
use Rattle.msc_command.specs.Words.{command_of_word}
use Rattle.msc_answer.specs.declared.ending.Refusal.{Refusal}
use Rattle.msc_answer.specs.declared.ending.Status.{Status}
use Rattle.msc_answer.specs.declared.ending.Status.TheVariants.{Done, Races, Refused, Unfinished, Failed}
use Rattle.msc_answer.specs.declared.tasks.RefusalForm.{RefusalForm}
use Rattle.msc_answer.specs.declared.tasks.ScenarioArgs.{ScenarioArgs}
use Rattle.msc_answer.specs.declared.tasks.Task.{Task}
use Rattle.msc_scanning.specs.Scans.{has_input, PutsScan, Scans}
use Rattle.msc_scanning.specs.Words.{words_in}
use Rattle.msc_scanning.specs.declared.words.ScanArgs.{ScanArgs}
use Rattle.msc_command.specs.declared.invocation.Invocation.{Invocation}
use Rattle.msc_command.specs.declared.invocation.Invocation.TheVariants as invocations
use Rattle.msc_command.specs.declared.words.CommandName.{CommandName}
use Rattle.msc_command.specs.declared.words.Shell.{Shell}

-- a text is all bytes of the input where FILE is `-`
abbrev pub IsFileText : Found → Option (List ℕ) → Option (List ℕ) → List ℕ → Type 0
IsFileText found rest left text = file_of found ≡ codes "-" → IsReadFrom rest left text

-- no command has this name, or the words behind it are none
abbrev pub IsNamedVainly : List ℕ → Found → Type 0
IsNamedVainly name found = MatchOption (command_of_word name) (Unit {0}) (λ command_name. IsNoCommand command_name found)

-- the words behind a command of this name ask for this
abbrev pub IsNamed : List ℕ → Found → Invocation → Type 0
IsNamed name found invocation =
    (command_name : CommandName) × (command_of_word name ≡ Some command_name) × Invokes command_name found invocation × IsTwofold found false

-- nothing is done for words that name no task, and the input is not touched
pub record AsksNothing {R W : Type 0} (name : List ℕ) (found : Found) (status : Status) (rest left : R) (old new : W) : Type 0 where
  pub named : IsNamedVainly name found
  pub ends : status ≡ Refused
  pub kept : new ≡ old
  pub unread : left ≡ rest

-- a task that the words behind a command ask for was performed; where FILE is not `-` the input was
-- not touched
pub record PerformsAsked {R W : Type 0} (remaining : R → Option (List ℕ)) (contents : W → Option (List ℕ)) (name : List ℕ) (found : Found) (status : Status) (rest left : R) (old new : W) : Type 0 where
  pub task : Task
  pub asked : IsNamed name found (invocations.Task task)
  pub ends : EndsAs contents task (file_of found) (IsFileText found (remaining rest) (remaining left)) status old new
  pub apart : file_of found ≢ codes "-" → left ≡ rest

-- a scan that the words behind a command ask for was made; where no PATH is `-` the input was not
-- touched
pub record ScansAsked {R W : Type 0} (remaining : R → Option (List ℕ)) (contents : W → Option (List ℕ)) (name : List ℕ) (found : Found) (status : Status) (rest left : R) (old new : W) : Type 0 where
  pub args : ScanArgs
  pub asked : IsNamed name found (invocations.Scan args)
  pub ends : Scans (remaining rest) (remaining left) contents args status old new
  pub apart : has_input (words_in args.paths.now) ≡ false → left ≡ rest

-- The completions of a shell follow the known bytes of a writer; or memory ran out, or the writer
-- failed. Which bytes they are is only tested.
abbrev pub IsCompleted : {W : Type 0} → (W → Option (List ℕ)) → Status → W → W → Type 0
IsCompleted contents Done old new = (printed : List ℕ) × Appends (contents old) (contents new) printed
IsCompleted contents Failed old new = Unit {0}
IsCompleted contents status old new = ⊥

-- the completions of a shell that the words behind a command ask for were printed, and the input was
-- not touched
pub record CompletesAsked {R W : Type 0} (contents : W → Option (List ℕ)) (name : List ℕ) (found : Found) (status : Status) (rest left : R) (old new : W) : Type 0 where
  pub shell : Shell
  pub asked : IsNamed name found (invocations.Completions shell)
  pub ends : IsCompleted contents status old new
  pub unread : left ≡ rest

-- The words behind a command were obeyed as a status tells: they ask for nothing; or a task that they
-- ask for was performed; or a scan was made; or the completions of a shell were printed. What is known
-- of the bytes that the input has left, and of those of the output, is given by functions.
abbrev pub Obeys : {R W : Type 0} → (R → Option (List ℕ)) → (W → Option (List ℕ)) → List ℕ → Found → Status → R → R → W → W → Type 0
Obeys remaining contents name found status rest left old new =
    AsksNothing name found status rest left old new
    ⊎ (PerformsAsked remaining contents name found status rest left old new
    ⊎ (ScansAsked remaining contents name found status rest left old new
    ⊎ CompletesAsked contents name found status rest left old new))

-- a command that the words name is obeyed, by what was found of the words behind it
abbrev pub ObeysNamed : {R W : Type 0} → (R → Option (List ℕ)) → (W → Option (List ℕ)) → Text × List Row → Status → R → R → W → W → Type 0
ObeysNamed remaining contents named status rest left old new =
    (found : Found) × (named.1 ≡ rows_of found)
    × Obeys remaining contents named.0 found status rest left old new

-- The words that `clap` took are obeyed; such as name no command are refused.
abbrev pub ObeysMatches : {R W : Type 0} → (R → Option (List ℕ)) → (W → Option (List ℕ)) → ArgMatches → Status → R → R → W → W → Type 0
ObeysMatches remaining contents matches status rest left old new = MatchOption (subcommand_rows_of matches)
    ((status ≡ Refused) × (new ≡ old)) (λ named. ObeysNamed remaining contents named status rest left old new)

-- How words end that are not taken: help or the version that they ask for goes out, where the
-- output does not fail; of a fault the output has had no call.
abbrev pub EndsUsage : {W : Type 0} → ErrorKind → Status → W → W → Type 0
EndsUsage DisplayHelp status old new = (status ≡ Done) ⊎ (status ≡ Failed)
EndsUsage DisplayVersion status old new = (status ≡ Done) ⊎ (status ≡ Failed)
EndsUsage OutOfMemory status old new = (status ≡ Failed) × (new ≡ old)
EndsUsage kind status old new = (status ≡ Refused) × (new ≡ old)

-- A run of the program does what its words say: the command that they name is obeyed, or they are
-- not taken, or memory runs out before they are known.
abbrev pub FollowsWords : {R W : Type 0} → (R → Option (List ℕ)) → (W → Option (List ℕ)) → List Text → Status → R → R → W → W → Type 0
FollowsWords remaining contents words status rest left old new =
    ((named : Text × List Row) × AreTaken words named × ObeysNamed remaining contents named status rest left old new)
    ⊎ (((kind : ErrorKind) × AreAnswered words kind × EndsUsage kind status old new)
    ⊎ ((status ≡ Failed) × (new ≡ old)))

-- a whole answer of some task with this status went behind the known bytes of a writer
abbrev pub TellsTask : {W : Type 0} → (W → Option (List ℕ)) → Status → W → W → Type 0
TellsTask contents status old new =
    (task : Task) × (file : List ℕ) × (text : List ℕ) × (printed : List ℕ)
    × Prints task file text status printed × Appends (contents old) (contents new) printed

-- all that is printed by some scan with this status went behind the known bytes of a writer
abbrev pub TellsScan : {W : Type 0} → (W → Option (List ℕ)) → Status → W → W → Type 0
TellsScan contents status old new =
    (args : ScanArgs) × (rest left : Option (List ℕ)) × (printed : List ℕ)
    × PutsScan args rest left status printed × Appends (contents old) (contents new) printed

-- a whole answer of a task, or all that a scan prints, went there
abbrev pub Tells : {W : Type 0} → (W → Option (List ℕ)) → Status → W → W → Type 0
Tells contents status old new = TellsTask contents status old new ⊎ TellsScan contents status old new

-- what is printed of all sequence diagrams of a Markdown text went behind the known bytes of a
-- writer, if one of them is refused
abbrev pub TellsRefusedDiagram : {W : Type 0} → (W → Option (List ℕ)) → W → W → Type 0
TellsRefusedDiagram contents old new =
    (x : ScenarioArgs) × (file : List ℕ) × (text : List ℕ) × (f : Markdown) × (many_in x text ≡ Some f) × (printed : List ℕ)
    × Surveys x file text f.numbers false false Done Refused printed × Appends (contents old) (contents new) printed

-- where a task is refused the writer has had no call, or has a refusal in some form behind its known
-- bytes; where one of several diagrams is, it has what is printed of all of them there; where a text of
-- a scan is, all that the scan prints
abbrev pub TellsRefused : {W : Type 0} → (W → Option (List ℕ)) → W → W → Type 0
TellsRefused contents old new =
    (new ≡ old) ⊎ (((form : RefusalForm) × (file : List ℕ) × (text : List ℕ) × (refusal : Refusal) × (printed : List ℕ)
    × AreTold form file text refusal printed × Appends (contents old) (contents new) printed)
    ⊎ (TellsRefusedDiagram contents old new ⊎ TellsScan contents Refused old new))

-- what the status tells of the answer that went out
abbrev pub TellsAnswer : {W : Type 0} → (W → Option (List ℕ)) → Status → W → W → Type 0
TellsAnswer contents Races old new = Tells contents Races old new
TellsAnswer contents Refused old new = TellsRefused contents old new
TellsAnswer contents Unfinished old new = Tells contents Unfinished old new
TellsAnswer contents status old new = Unit {0}

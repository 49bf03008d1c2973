-- Why words that `clap` took are no command.
use Rattle.std.specs.Prelude.{◌≡◌, ◌⊎◌, ℕ, true, false, List, Option, None, Some}
use Rattle.std.specs.Borrow.{Bor}
use Rattle.clap.specs.Matches.{first_value}
use Rattle.clap.specs.declared.parser.matches.Found.{Found}
use Rattle.msc_report.specs.declared.pair.EventName.{EventName}
use Rattle.msc_command.specs.Asking.{architecture, default_limit, is_limit, is_of_scenarios, lacks_from, lacks_queues, lacks_rounds, IsEventWord, IsFlag, IsNoName, IsNumberGiven, IsOptionNumber, IsOrigin, IsTwofold}
use Rattle.msc_answer.specs.Importing.{gives_choices, gives_rounds}
use Rattle.msc_command.specs.Invocations.{shell_in}
use Rattle.msc_command.specs.Scanning.{is_jobs, IsContrary, IsScanSurvey}
use Rattle.msc_command.specs.Words.{arg_word}
use Rattle.msc_command.specs.declared.misuse.Misuse.{Misuse}
use Rattle.msc_command.specs.declared.misuse.Misuse.TheVariants.{Excluded, NoQueues, Lacks, NoEvent, NoChoices, NoDiagram, NotOfDiagrams, NoRounds, NoLimit, NoJobs}
use Rattle.msc_answer.specs.declared.tasks.ChosenArgs.{ChosenArgs}
use Rattle.msc_answer.specs.declared.tasks.ScenarioArgs.{ScenarioArgs}
use Rattle.msc_command.specs.declared.words.CommandName.{CommandName}
use Rattle.msc_command.specs.declared.words.CommandName.TheVariants as command_names
use Rattle.msc_command.specs.declared.words.ArgName.{ArgName}
use Rattle.msc_command.specs.declared.words.ArgName.TheVariants as words

-- the architecture is missing
abbrev pub IsQueuesMisuse : Found → Misuse → Type 0
IsQueuesMisuse found misuse = (misuse ≡ NoQueues) × (architecture found ≡ None)

-- the word for an event is missing
abbrev pub IsMissing : Found → ArgName → Misuse → Type 0
IsMissing found word misuse =
    (misuse ≡ Lacks word) × (first_value found (arg_word word) ≡ None)

-- the word for an event is given and names none
pub record IsNoEvent (found : Found) (word : ArgName) (misuse : Misuse) : Type 0 where
  pub text : Bor (List ℕ)
  pub is : misuse ≡ NoEvent word text
  pub given : first_value found (arg_word word) ≡ Some text.now
  pub none : IsNoName text.now

-- the word for an event is missing, or names none
abbrev pub IsEventMisuse : Found → ArgName → Misuse → Type 0
IsEventMisuse found word misuse = IsMissing found word misuse ⊎ IsNoEvent found word misuse

-- the word for a shell is missing, or names none
abbrev pub IsShellMisuse : Found → Misuse → Type 0
IsShellMisuse found misuse = (misuse ≡ Lacks words.Shell) × (shell_in found ≡ None)

-- this is so of the first of two events; or of the second one, behind a first that is named
abbrev pub IsPairMisuse : Found → Misuse → Type 0
IsPairMisuse found misuse =
    IsEventMisuse found words.FirstEvent misuse
    ⊎ (((name : EventName) × IsEventWord found (arg_word words.FirstEvent) name) × IsEventMisuse found words.SecondEvent misuse)

-- rounds of the chart cannot be requested of a diagram
abbrev pub IsAgainMisuse : Found → Misuse → Type 0
IsAgainMisuse found misuse =
    (misuse ≡ NotOfDiagrams words.Again) × IsFlag found (arg_word words.Again) true

-- the word for numbers of rounds gives none
pub record IsRoundsMisuse (found : Found) (misuse : Misuse) : Type 0 where
  pub text : Bor (List ℕ)
  pub is : misuse ≡ NoRounds text
  pub given : first_value found (arg_word words.Rounds) ≡ Some text.now
  pub none : gives_rounds text.now ≡ false

-- as many scenarios cannot be requested
pub record IsLimitMisuse (found : Found) (misuse : Misuse) : Type 0 where
  pub limit : ℕ
  pub is : misuse ≡ NoLimit limit
  pub given : IsOptionNumber found (arg_word words.Limit) default_limit limit
  pub outside : is_limit limit ≡ false

-- the word for choices gives none
pub record IsImportMisuse (found : Found) (misuse : Misuse) : Type 0 where
  pub text : Bor (List ℕ)
  pub is : misuse ≡ NoChoices text
  pub given : first_value found (arg_word words.Choose) ≡ Some text.now
  pub none : gives_choices text.now ≡ false

-- the first of these that is so of a diagram
pub data IsDiagramMisuse (found : Found) (misuse : Misuse) : Type 0 where
  again : IsAgainMisuse found misuse → IsDiagramMisuse found misuse
  rounds : IsFlag found (arg_word words.Again) false → IsRoundsMisuse found misuse → IsDiagramMisuse found misuse
  limit : IsFlag found (arg_word words.Again) false → lacks_rounds (first_value found (arg_word words.Rounds)) ≡ false
      → IsLimitMisuse found misuse → IsDiagramMisuse found misuse
  choices : (limit : ℕ) → IsFlag found (arg_word words.Again) false
      → lacks_rounds (first_value found (arg_word words.Rounds)) ≡ false
      → IsOptionNumber found (arg_word words.Limit) default_limit limit → is_limit limit ≡ true
      → IsImportMisuse found misuse → IsDiagramMisuse found misuse

-- words of diagrams are given to `check` without `--from`, or this is wrong with what it is to do
-- with a diagram
abbrev pub IsCheckMisuse : Found → Misuse → Type 0
IsCheckMisuse found misuse =
    ((misuse ≡ NoDiagram) × (lacks_from found ≡ true))
    ⊎ ((is_of_scenarios found ≡ true) × IsDiagramMisuse found misuse)

-- options of diagrams are given without `--from`, or the word for choices gives none
abbrev pub IsOriginMisuse : Found → Misuse → Type 0
IsOriginMisuse found misuse =
    ((misuse ≡ NoDiagram) × (lacks_from found ≡ true))
    ⊎ ((lacks_from found ≡ false) × (is_of_scenarios found ≡ true) × IsImportMisuse found misuse)

-- the same, or then of a word for an event
abbrev pub IsPairedMisuse : Found → Misuse → Type 0
IsPairedMisuse found misuse =
    IsOriginMisuse found misuse ⊎ (((chosen : Option ChosenArgs) × IsOrigin found chosen) × IsPairMisuse found misuse)

-- rules for links are given without an architecture, or then this is wrong with the words of a diagram
abbrev pub IsDrawMisuse : Found → Misuse → Type 0
IsDrawMisuse found misuse =
    ((misuse ≡ NoQueues) × (lacks_queues found ≡ true)) ⊎ ((lacks_queues found ≡ false) × IsOriginMisuse found misuse)

-- the first of these that is so of the diagrams of a scan
abbrev pub IsSurveyMisuse : Found → Misuse → Type 0
IsSurveyMisuse found misuse =
    IsRoundsMisuse found misuse
    ⊎ ((lacks_rounds (first_value found (arg_word words.Rounds)) ≡ false) × IsLimitMisuse found misuse)

-- as many files cannot be checked at a time
pub record IsJobsMisuse (found : Found) (misuse : Misuse) : Type 0 where
  pub jobs : ℕ
  pub is : misuse ≡ NoJobs jobs
  pub given : IsNumberGiven found (arg_word words.Jobs) (Some jobs)
  pub outside : is_jobs jobs ≡ false

-- the first of these that is so of the words of `scan`
abbrev pub IsScanMisuse : Found → Misuse → Type 0
IsScanMisuse found misuse =
    ((misuse ≡ Excluded words.ScanAccept words.NoAccept) × IsContrary found true)
    ⊎ (IsContrary found false × (IsSurveyMisuse found misuse
    ⊎ (((x : ScenarioArgs) × IsScanSurvey found x) × IsJobsMisuse found misuse)))

-- the first thing that is wrong with the words behind a command, where none exclude each other
abbrev pub IsWordMisuse : CommandName → Found → Misuse → Type 0
IsWordMisuse command_names.Read found misuse = IsOriginMisuse found misuse
IsWordMisuse command_names.List found misuse = IsOriginMisuse found misuse
IsWordMisuse command_names.Draw found misuse = IsDrawMisuse found misuse
IsWordMisuse command_names.Import found misuse = IsImportMisuse found misuse
IsWordMisuse command_names.Scan found misuse = IsScanMisuse found misuse
IsWordMisuse command_names.Completions found misuse = IsShellMisuse found misuse
IsWordMisuse command_names.Check found misuse = IsQueuesMisuse found misuse ⊎ IsCheckMisuse found misuse
IsWordMisuse command_names.Explain found misuse = IsQueuesMisuse found misuse ⊎ IsPairedMisuse found misuse
IsWordMisuse command_names.Reverse found misuse = IsQueuesMisuse found misuse ⊎ IsPairedMisuse found misuse
IsWordMisuse command_name found misuse = IsQueuesMisuse found misuse ⊎ IsOriginMisuse found misuse

-- the words behind a command are none for this reason, the first one: they exclude each other, or
-- lack or mistake what the command needs
abbrev pub IsMisuse : CommandName → Found → Misuse → Type 0
IsMisuse command_name found misuse =
    ((misuse ≡ Excluded words.Places words.Plain) × IsTwofold found true)
    ⊎ (IsTwofold found false × IsWordMisuse command_name found misuse)

-- the words behind a command are none
abbrev pub IsNoCommand : CommandName → Found → Type 0
IsNoCommand command_name found = (misuse : Misuse) × IsMisuse command_name found misuse

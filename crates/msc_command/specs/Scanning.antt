-- What the words of `scan` ask for, by what `clap` found of them.
use Rattle.std.specs.Prelude.{◌≡◌, ◌&&◌, not, ℕ, Bool, true, false, List, [], Option, Some, None, IfSome, map, option_map, unwrap_or, nat_le}
use Rattle.clap.specs.Matches.{first_value}
use Rattle.clap.specs.declared.parser.matches.Found.{Found}
use Rattle.msc_answer.specs.Tasks.{format_of_word}
use Rattle.msc_answer.specs.declared.tasks.CheckArgs.{CheckArgs}
use Rattle.msc_answer.specs.declared.tasks.DiagramArgs.{DiagramArgs}
use Rattle.msc_answer.specs.declared.tasks.Format.{Format}
use Rattle.msc_answer.specs.declared.tasks.Format.TheVariants as formats
use Rattle.msc_answer.specs.declared.tasks.LinkWords.{LinkWords}
use Rattle.msc_answer.specs.declared.tasks.ScenarioArgs.{ScenarioArgs}
use Rattle.msc_chart.specs.declared.queue.LinkKind.TheVariants.{Pair}
use Rattle.msc_chart.specs.declared.queue.Queues.TheVariants.{Uniform}
use Rattle.msc_findings.specs.declared.format.Following.TheVariants.{Blank}
use Rattle.msc_import.specs.declared.importing.Language.TheVariants as languages
use Rattle.msc_scanning.specs.declared.words.ScanArgs.{ScanArgs}
use Rattle.msc_command.specs.Asking.{args_of, colours_by, cross_named, default_limit, is_limit, lacks_rounds, own_named, par_named, AreCheckOptions, AreRunsShown, IsEventStyle, IsFlag, IsNumberGiven, IsOptionNumber}
use Rattle.msc_command.specs.Words.{arg_word}
use Rattle.msc_command.specs.declared.words.ArgName.TheVariants as words

-- the format that a word names: that of findings as people read them, where none does
abbrev pub scan_format_named : Option (List ℕ) → Format
scan_format_named None = formats.Full
scan_format_named (Some word) = unwrap_or (format_of_word word) formats.Full

abbrev pub scan_format : Found → Format
scan_format found = scan_format_named (first_value found (arg_word words.ScanFormat))

-- whether a flag is absent
pub record IsNoFlag (found : Found) (id : List ℕ) (absent : Bool) : Type 0 where
  pub given : Bool
  pub flag : IsFlag found id given
  pub is : absent ≡ not given

-- what the words ask of the races of each chart and each scenario; marks count, unless an option says
-- that they do not
pub record AreScanChecks (found : Found) (c : CheckArgs) : Type 0 where
  pub queues_are : c.queues ≡ Uniform Pair
  pub shown : ℕ
  pub runs : AreRunsShown (scan_format found) found shown
  pub options : AreCheckOptions found shown c.options
  pub accept : IsNoFlag found (arg_word words.NoAccept) c.accept
  pub again : IsFlag found (arg_word words.Again) c.again
  pub format_is : c.format ≡ scan_format found
  pub auto : Bool
  pub colours : c.colours ≡ colours_by (first_value found (arg_word words.Color)) auto
  pub event_style : IsEventStyle found c.event_style
  pub following : c.following ≡ Blank

-- what they say of each diagram; its language, its place and its name follow from the text
pub record IsAnyDiagram (found : Found) (x : DiagramArgs) : Type 0 where
  pub language : x.language ≡ languages.Any
  pub fence : x.fence ≡ None
  pub cross : x.cross ≡ cross_named (first_value found (arg_word words.Cross))
  pub own : x.manner.own ≡ own_named (first_value found (arg_word words.Own))
  pub par : x.manner.par ≡ par_named (first_value found (arg_word words.Par))
  pub name : x.name.now ≡ []

-- the rules for links
pub record AreRules (found : Found) (links : LinkWords) : Type 0 where
  pub own : links.own ≡ false
  pub pairs : map (λ word. word.now) links.pairs.now ≡ args_of found (arg_word words.Pair)
  pub mailboxes : map (λ word. word.now) links.mailboxes.now ≡ args_of found (arg_word words.Mailbox)
  pub singles : map (λ word. word.now) links.singles.now ≡ args_of found (arg_word words.Single)

-- what they ask of each diagram
pub record IsScanSurvey (found : Found) (x : ScenarioArgs) : Type 0 where
  pub diagram : IsAnyDiagram found x.diagram
  pub rounds : option_map (λ r. r.now) x.rounds ≡ first_value found (arg_word words.Rounds)
  pub gives : lacks_rounds (first_value found (arg_word words.Rounds)) ≡ false
  pub limit : IsOptionNumber found (arg_word words.Limit) default_limit x.limit
  pub within : is_limit x.limit ≡ true
  pub choose : x.choose ≡ None
  pub check_args : AreScanChecks found x.check_args
  pub links : AreRules found x.links
  pub quiet : IsFlag found (arg_word words.ScanQuiet) x.quiet

-- how many files may be checked at a time
abbrev pub is_jobs : ℕ → Bool
is_jobs n = nat_le 1 n && nat_le n 64

-- how many are: as many as an option says; without it their number is not known, only its range
pub record AreJobs (found : Found) (jobs : ℕ) : Type 0 where
  pub given : Option ℕ
  pub number : IsNumberGiven found (arg_word words.Jobs) given
  pub is : IfSome given (λ n. jobs ≡ n)
  pub within : is_jobs jobs ≡ true

-- options say that marks count, and that they do not
pub record IsContrary (found : Found) (contrary : Bool) : Type 0 where
  pub accepts : Bool
  pub ignores : Bool
  pub wants : IsFlag found (arg_word words.ScanAccept) accepts
  pub forbids : IsFlag found (arg_word words.NoAccept) ignores
  pub both : contrary ≡ (accepts && ignores)

-- what the words of `scan` ask for
pub record AreScanArgs (found : Found) (x : ScanArgs) : Type 0 where
  pub not_contrary : IsContrary found false
  pub survey : IsScanSurvey found x.words
  pub queues : map (λ word. word.now) x.queues.now ≡ args_of found (arg_word words.ScanQueues)
  pub skips : map (λ word. word.now) x.skips.now ≡ args_of found (arg_word words.Skip)
  pub paths : map (λ word. word.now) x.paths.now ≡ args_of found (arg_word words.Paths)
  pub only_races : IsFlag found (arg_word words.OnlyRaces) x.only_races
  pub notes : IsFlag found (arg_word words.Places) x.notes
  pub jobs : AreJobs found x.jobs

-- The commands of the program and their words.
use Rattle.std.specs.Prelude.{ℕ, Bool, true, false, List, [], ◌∷◌, Option, codes, find}
use Rattle.std.specs.Str.{bytes_eq}
use Rattle.msc_command.specs.declared.words.ValueKind.{ValueKind}
use Rattle.msc_command.specs.declared.words.ValueKind.TheVariants as value_kind
use Rattle.msc_command.specs.declared.words.CommandName.{CommandName}
use Rattle.msc_command.specs.declared.words.CommandName.TheVariants.{Read, Check, Scan, Explain, Follow, Run, List as Listing, Draw, Reverse, Report, Ready, Import, Completions}
use Rattle.msc_command.specs.declared.words.Shell.{Shell as ShellName}
use Rattle.msc_command.specs.declared.words.Shell.TheVariants.{Bash, Zsh, Fish}
use Rattle.msc_command.specs.declared.words.ArgName.{ArgName}
use Rattle.msc_command.specs.declared.words.ArgName.TheVariants.{File, Paths, Queues, QueuesIfAny, ScanQueues, Pair, Mailbox, Single, Closest, Why, Most, Show, ShowSticks, Only, Allow, ChartFormat, FormatSticks, ScanFormat, Color, Quiet, ScanQuiet, Words, Short, Accept, ScanAccept, NoAccept, Again, AgainSticks, Patience, Places, Plain, Svg, FirstEvent, SecondEvent, Shell, From, ScenarioFrom, Choose, Listed, Name, Own, Cross, Par, ScenariosFrom, Rounds, Limit, Fence, Skip, OnlyRaces, Jobs}

-- the name of a word of a command
abbrev pub arg_word : ArgName → List ℕ
arg_word File = codes "FILE"
arg_word Paths = codes "PATH"
arg_word Queues = codes "queues"
arg_word QueuesIfAny = codes "queues"
arg_word ScanQueues = codes "queues"
arg_word Pair = codes "pair"
arg_word Mailbox = codes "mailbox"
arg_word Single = codes "single"
arg_word Closest = codes "closest"
arg_word Why = codes "why"
arg_word Most = codes "most"
arg_word Show = codes "show"
arg_word ShowSticks = codes "show"
arg_word Only = codes "only"
arg_word Allow = codes "allow"
arg_word ChartFormat = codes "format"
arg_word FormatSticks = codes "format"
arg_word ScanFormat = codes "format"
arg_word Color = codes "color"
arg_word Quiet = codes "quiet"
arg_word ScanQuiet = codes "quiet"
arg_word Words = codes "words"
arg_word Short = codes "short"
arg_word Accept = codes "accept"
arg_word ScanAccept = codes "accept"
arg_word NoAccept = codes "no-accept"
arg_word Again = codes "again"
arg_word AgainSticks = codes "again"
arg_word Patience = codes "patience"
arg_word Places = codes "places"
arg_word Plain = codes "plain"
arg_word Svg = codes "svg"
arg_word From = codes "from"
arg_word ScenarioFrom = codes "from"
arg_word Choose = codes "choose"
arg_word Listed = codes "list"
arg_word Name = codes "name"
arg_word Own = codes "self"
arg_word Cross = codes "cross"
arg_word Par = codes "par"
arg_word ScenariosFrom = codes "from"
arg_word Rounds = codes "rounds"
arg_word Limit = codes "limit"
arg_word Fence = codes "fence"
arg_word Skip = codes "skip"
arg_word OnlyRaces = codes "only-races"
arg_word Jobs = codes "jobs"
arg_word FirstEvent = codes "E"
arg_word SecondEvent = codes "F"
arg_word Shell = codes "SHELL"

-- what it is, and takes
abbrev pub value_kind_of : ArgName → ValueKind
value_kind_of File = value_kind.File
value_kind_of Paths = value_kind.Paths
value_kind_of Queues = value_kind.Architecture
value_kind_of QueuesIfAny = value_kind.ArchitectureIfAny
value_kind_of ScanQueues = value_kind.Architectures
value_kind_of Pair = value_kind.Links
value_kind_of Mailbox = value_kind.Links
value_kind_of Single = value_kind.Links
value_kind_of Closest = value_kind.Nothing
value_kind_of Why = value_kind.Nothing
value_kind_of Most = value_kind.Number
value_kind_of Show = value_kind.Number
value_kind_of ShowSticks = value_kind.Number
value_kind_of Only = value_kind.Names
value_kind_of Allow = value_kind.Kinds
value_kind_of ChartFormat = value_kind.Format
value_kind_of FormatSticks = value_kind.FormatSticks
value_kind_of ScanFormat = value_kind.ScanFormat
value_kind_of Color = value_kind.Color
value_kind_of Quiet = value_kind.NothingOrQ
value_kind_of ScanQuiet = value_kind.NothingOrQ
value_kind_of Words = value_kind.Nothing
value_kind_of Short = value_kind.Nothing
value_kind_of Accept = value_kind.Nothing
value_kind_of ScanAccept = value_kind.Nothing
value_kind_of NoAccept = value_kind.Nothing
value_kind_of Again = value_kind.Nothing
value_kind_of AgainSticks = value_kind.Nothing
value_kind_of Patience = value_kind.Number
value_kind_of Places = value_kind.Nothing
value_kind_of Plain = value_kind.Nothing
value_kind_of Svg = value_kind.Nothing
value_kind_of From = value_kind.Language
value_kind_of ScenarioFrom = value_kind.Language
value_kind_of Choose = value_kind.Choices
value_kind_of Listed = value_kind.Nothing
value_kind_of Name = value_kind.Name
value_kind_of Own = value_kind.Own
value_kind_of Cross = value_kind.Cross
value_kind_of Par = value_kind.Par
value_kind_of ScenariosFrom = value_kind.Language
value_kind_of Rounds = value_kind.Rounds
value_kind_of Limit = value_kind.Number
value_kind_of Fence = value_kind.Number
value_kind_of Skip = value_kind.Names
value_kind_of OnlyRaces = value_kind.Nothing
value_kind_of Jobs = value_kind.Number
value_kind_of FirstEvent = value_kind.Event
value_kind_of SecondEvent = value_kind.Event
value_kind_of Shell = value_kind.Shell

-- a word of this kind is an argument; otherwise it is an option
abbrev pub is_argument : ValueKind → Bool
is_argument value_kind.File = true
is_argument value_kind.Paths = true
is_argument value_kind.Event = true
is_argument value_kind.Shell = true
is_argument _ = false

-- an option of this kind has a value
abbrev pub has_value : ValueKind → Bool
has_value value_kind.Nothing = false
has_value value_kind.NothingOrQ = false
has_value _ = true

-- a word of this kind may be repeated
abbrev pub may_be_repeated : ValueKind → Bool
may_be_repeated value_kind.Paths = true
may_be_repeated value_kind.Architectures = true
may_be_repeated value_kind.Kinds = true
may_be_repeated value_kind.Names = true
may_be_repeated value_kind.Links = true
may_be_repeated _ = false

-- the name of a command
abbrev pub command_word : CommandName → List ℕ
command_word Read = codes "read"
command_word Check = codes "check"
command_word Scan = codes "scan"
command_word Explain = codes "explain"
command_word Follow = codes "follow"
command_word Run = codes "run"
command_word Listing = codes "list"
command_word Draw = codes "draw"
command_word Reverse = codes "reverse"
command_word Report = codes "report"
command_word Ready = codes "ready"
command_word Import = codes "import"
command_word Completions = codes "completions"

-- all commands
abbrev pub command_names : List CommandName
command_names = Read ∷ Check ∷ Scan ∷ Explain ∷ Follow ∷ Run ∷ Listing ∷ Draw ∷ Reverse ∷ Report ∷ Ready ∷ Import ∷ Completions ∷ []

-- the command of a name
unfoldable pub command_of_word : List ℕ → Option CommandName
command_of_word name = find (λ command_name. bytes_eq name (command_word command_name)) command_names

-- the words of a command
abbrev pub args_of : CommandName → List ArgName
args_of Read = Places ∷ Plain ∷ ScenarioFrom ∷ Choose ∷ Fence ∷ Name ∷ Own ∷ Cross ∷ Par ∷ File ∷ []
args_of Check =
    ChartFormat ∷ Color ∷ Quiet ∷ Words ∷ Short ∷ Places ∷ Plain ∷ Queues ∷ Pair ∷ Mailbox ∷ Single ∷ Closest ∷ Why ∷ Most ∷ Show ∷ Allow ∷ Accept ∷ Again
    ∷ ScenariosFrom ∷ Choose ∷ Rounds ∷ Limit ∷ Fence ∷ Name ∷ Own ∷ Cross ∷ Par ∷ File ∷ []
args_of Scan =
    ScanFormat ∷ Color ∷ ScanQuiet ∷ Words ∷ Short ∷ Places ∷ Plain ∷ Skip ∷ OnlyRaces ∷ Jobs ∷ ScanQueues ∷ Pair ∷ Mailbox ∷ Single ∷ Closest ∷ Why ∷ Most ∷ Show
    ∷ Allow ∷ ScanAccept ∷ NoAccept ∷ Again ∷ Rounds ∷ Limit ∷ Own ∷ Cross ∷ Par ∷ Paths ∷ []
args_of Explain =
    Words ∷ Short ∷ Places ∷ Plain ∷ Queues ∷ Pair ∷ Mailbox ∷ Single ∷ ScenarioFrom ∷ Choose ∷ Fence ∷ Name ∷ Own ∷ Cross ∷ Par ∷ File ∷ FirstEvent ∷ SecondEvent ∷ []
args_of Follow = Words ∷ Places ∷ Plain ∷ Queues ∷ Pair ∷ Mailbox ∷ Single ∷ ScenarioFrom ∷ Choose ∷ Fence ∷ Name ∷ Own ∷ Cross ∷ Par ∷ File ∷ []
args_of Run = Places ∷ Plain ∷ Queues ∷ Pair ∷ Mailbox ∷ Single ∷ Patience ∷ ScenarioFrom ∷ Choose ∷ Fence ∷ Name ∷ Own ∷ Cross ∷ Par ∷ File ∷ []
args_of Listing = Places ∷ Plain ∷ ScenarioFrom ∷ Choose ∷ Fence ∷ Name ∷ Own ∷ Cross ∷ Par ∷ File ∷ []
args_of Draw =
    Svg ∷ Places ∷ Plain ∷ QueuesIfAny ∷ Pair ∷ Mailbox ∷ Single ∷ ScenarioFrom ∷ Choose ∷ Fence ∷ Name ∷ Own ∷ Cross ∷ Par ∷ File ∷ []
args_of Reverse =
    Svg ∷ Places ∷ Plain ∷ Queues ∷ Pair ∷ Mailbox ∷ Single ∷ ScenarioFrom ∷ Choose ∷ Fence ∷ Name ∷ Own ∷ Cross ∷ Par ∷ File ∷ FirstEvent ∷ SecondEvent ∷ []
args_of Report = Places ∷ Plain ∷ Queues ∷ Pair ∷ Mailbox ∷ Single ∷ ScenarioFrom ∷ Choose ∷ Fence ∷ Name ∷ Own ∷ Cross ∷ Par ∷ File ∷ []
args_of Ready =
    FormatSticks ∷ Color ∷ Words ∷ Places ∷ Plain ∷ Queues ∷ Pair ∷ Mailbox ∷ Single ∷ Only ∷ ShowSticks ∷ AgainSticks ∷ ScenarioFrom ∷ Choose ∷ Fence ∷ Name ∷ Own ∷ Cross ∷ Par ∷ File ∷ []
args_of Import =
    Listed ∷ Places ∷ Plain ∷ From ∷ Choose ∷ Fence ∷ Name ∷ Own ∷ Cross ∷ Par ∷ File ∷ []
args_of Completions = Shell ∷ []

-- the name of a shell
abbrev pub shell_word : ShellName → List ℕ
shell_word Bash = codes "bash"
shell_word Zsh = codes "zsh"
shell_word Fish = codes "fish"

-- all shells
abbrev pub shell_names : List ShellName
shell_names = Bash ∷ Zsh ∷ Fish ∷ []

-- the shell of a name
unfoldable pub shell_of_word : List ℕ → Option ShellName
shell_of_word name = find (λ shell. bytes_eq name (shell_word shell)) shell_names

-- the words of the shells
abbrev pub shell_words : List (List ℕ)
shell_words = shell_word Bash ∷ shell_word Zsh ∷ shell_word Fish ∷ []

-- the words for the formats of answers on ready instances
abbrev pub stick_format_words : List (List ℕ)
stick_format_words = codes "text" ∷ codes "count" ∷ codes "lines" ∷ codes "full" ∷ []

-- the words for the architectures of a scan
abbrev pub scan_queue_words : List (List ℕ)
scan_queue_words = codes "own" ∷ codes "all" ∷ codes "pair" ∷ codes "mailbox" ∷ codes "single" ∷ []

-- those for the formats of a scan
abbrev pub scan_format_words : List (List ℕ)
scan_format_words = codes "full" ∷ codes "text" ∷ codes "count" ∷ codes "lines" ∷ []

-- those for whether there are colours
abbrev pub color_words : List (List ℕ)
color_words = codes "auto" ∷ codes "always" ∷ codes "never" ∷ []

-- the words for the languages of texts
abbrev pub language_words : List (List ℕ)
language_words = codes "mermaid" ∷ codes "any" ∷ []

-- those for what arrows to oneself are
abbrev pub own_words : List (List ℕ)
own_words = codes "action" ∷ codes "message" ∷ []

-- those for what arrows with a cross are
abbrev pub cross_words : List (List ℕ)
cross_words = codes "lost" ∷ codes "arrives" ∷ []

-- that for parallel branches that are no coregion
abbrev pub par_words : List (List ℕ)
par_words = codes "drawn" ∷ []

-- What the words behind a command ask for, by what `clap` found of them.
use Rattle.std.specs.Prelude.{◌≡◌, ◌<◌, ◌^◌, ◌&&◌, ◌||◌, not, ℕ, Bool, true, false, List, [], ◌++◌, Option, Some, None, codes, map, option_and_then, unwrap_or, cond, option_map, is_some, length, nat_eq, nat_le}
use Rattle.std.specs.List.{list_any}
use Rattle.std.specs.Option.{option_map_or}
use Rattle.std.specs.Str.{bytes_eq}
use Rattle.std.specs.Str.Parse.{IsNumeral, digits_value, without_leading_plus}
use Rattle.clap.specs.Matches.{first_value, matched_of, one_text, raw_values}
use Rattle.clap.specs.declared.parser.matches.Found.{Found}
use Rattle.msc_chart.specs.Architectures.{link_kind_of_word}
use Rattle.msc_chart.specs.declared.queue.LinkKind.{LinkKind}
use Rattle.msc_chart.specs.declared.queue.LinkKind.TheVariants.{Pair}
use Rattle.msc_chart.specs.declared.queue.Queues.{Queues}
use Rattle.msc_chart.specs.declared.queue.Queues.TheVariants.{Uniform}
use Rattle.msc_reason.specs.Causes.{kind_word}
use Rattle.msc_reason.specs.declared.cause.RaceKind.{RaceKind}
use Rattle.msc_reason.specs.Kinds.{has_kind}
use Rattle.msc_reason.specs.declared.kinds.KindSet.{KindSet}
use Rattle.msc_findings.specs.declared.format.Following.TheVariants.{Help}
use Rattle.msc_judge.specs.declared.options.CheckOptions.{CheckOptions}
use Rattle.msc_report.specs.declared.pair.EventName.{EventName}
use Rattle.msc_report.specs.declared.pair.EventName.TheVariants.{Number, Line}
use Rattle.msc_import.specs.declared.importing.Language.{Language}
use Rattle.msc_import.specs.declared.importing.Language.TheVariants as languages
use Rattle.msc_import.specs.declared.plan.Own.{Own}
use Rattle.msc_import.specs.declared.plan.Own.TheVariants as owns
use Rattle.msc_import.specs.declared.plan.Par.{Par}
use Rattle.msc_import.specs.declared.plan.Par.TheVariants as pars
use Rattle.msc_mermaid.specs.declared.statement.Cross.{Cross}
use Rattle.msc_mermaid.specs.declared.statement.Cross.TheVariants as crosses
use Rattle.msc_draw.specs.declared.picture_format.PictureFormat.{PictureFormat as PictureFormat}
use Rattle.msc_draw.specs.declared.picture_format.PictureFormat.TheVariants as pictures
use Rattle.msc_answer.specs.declared.tasks.CheckArgs.{CheckArgs}
use Rattle.msc_answer.specs.declared.tasks.Drawn.TheVariants as drawn
use Rattle.msc_answer.specs.declared.tasks.ReverseArgs.{ReverseArgs}
use Rattle.msc_answer.specs.declared.tasks.ExplainArgs.{ExplainArgs}
use Rattle.msc_answer.specs.declared.tasks.FollowArgs.{FollowArgs}
use Rattle.msc_answer.specs.declared.tasks.DiagramArgs.{DiagramArgs}
use Rattle.msc_answer.specs.declared.tasks.ImportArgs.{ImportArgs}
use Rattle.msc_answer.specs.declared.tasks.ChosenArgs.{ChosenArgs}
use Rattle.msc_answer.specs.declared.tasks.TextArgs.{TextArgs}
use Rattle.msc_answer.specs.declared.tasks.EventStyle.{EventStyle}
use Rattle.msc_answer.specs.declared.tasks.QuietArgs.{QuietArgs}
use Rattle.msc_answer.specs.declared.tasks.ReadyArgs.{ReadyArgs}
use Rattle.msc_answer.specs.declared.tasks.ReportArgs.{ReportArgs}
use Rattle.msc_answer.specs.declared.tasks.ScenarioArgs.{ScenarioArgs}
use Rattle.msc_answer.specs.declared.tasks.ChartCommand.TheVariants.{Check, Quiet, Explain, Follow, Run, List as Listing, Ready}
use Rattle.msc_answer.specs.declared.tasks.Format.{Format}
use Rattle.msc_answer.specs.declared.tasks.Format.TheVariants as formats
use Rattle.msc_answer.specs.declared.tasks.LinkWords.{LinkWords}
use Rattle.msc_answer.specs.declared.tasks.Task.{Task}
use Rattle.msc_answer.specs.declared.tasks.Task.TheVariants.{Read, Chart, Draw, Import, Scenarios, Report}
use Rattle.msc_command.specs.declared.words.CommandName.{CommandName}
use Rattle.msc_command.specs.declared.words.CommandName.TheVariants as command_names
use Rattle.msc_command.specs.declared.words.ArgName.{ArgName}
use Rattle.msc_command.specs.declared.words.ArgName.TheVariants as words
use Rattle.msc_answer.specs.Importing.{gives_choices, gives_rounds, title_of}
use Rattle.msc_command.specs.Words.{arg_word}
use Rattle.msc_answer.specs.Tasks.{format_of_word, is_full, unlimited}

-- the word by which a text is asked for its own queues
abbrev pub is_own_word : List ℕ → Bool
is_own_word word = bytes_eq word (codes "own")

-- the kind of the links that no rule names, by a word for an architecture. A text that is asked for
-- its own queues, and names none, has `pair`
abbrev pub usual_by : List ℕ → Option LinkKind
usual_by word = cond (is_own_word word) (Some Pair) (link_kind_of_word word)

-- the architecture that the words name
abbrev pub architecture : Found → Option Queues
architecture found = option_map Uniform (option_and_then usual_by (first_value found (arg_word words.Queues)))

-- the words ask the text for its own queues
abbrev pub asks_own : Found → Bool
asks_own found = option_map_or is_own_word (first_value found (arg_word words.Queues)) false

-- whether a flag stands among the words
pub record IsFlag (found : Found) (id : List ℕ) (given : Bool) : Type 0 where
  pub absent : one_text found id ≡ None → given ≡ false
  pub yes : one_text found id ≡ Some (codes "true") → given ≡ true
  pub no : one_text found id ≡ Some (codes "false") → given ≡ false

-- the text is the numeral of a number of 32 bits
pub record IsNumberText (text : List ℕ) (n : ℕ) : Type 0 where
  pub numeral : IsNumeral 10 (without_leading_plus text)
  pub value : n ≡ digits_value 10 (without_leading_plus text)
  pub fits : n < 2 ^ 32

-- it is none
abbrev pub IsNoNumber : List ℕ → Type 0
IsNoNumber text = (n : ℕ) → IsNumberText text n → ⊥

-- the text is a colon and this
abbrev pub IsColonAnd : List ℕ → List ℕ → Type 0
IsColonAnd text rest = text ≡ codes ":" ++ rest

-- the text names an event: by its number, or by a line, from 1 on, behind a colon
abbrev pub IsNameText : List ℕ → EventName → Type 0
IsNameText text (Number n) = ((rest : List ℕ) → IsColonAnd text rest → ⊥) × IsNumberText text n
IsNameText text (Line line) = (rest : List ℕ) × IsColonAnd text rest × (0 < line) × IsNumberText rest line

-- it names none
abbrev pub IsNoName : List ℕ → Type 0
IsNoName text = (name : EventName) → IsNameText text name → ⊥

-- the word of an argument names an event
pub record IsEventWord (found : Found) (id : List ℕ) (name : EventName) : Type 0 where
  pub text : List ℕ
  pub word : first_value found id ≡ Some text
  pub named : IsNameText text name

-- the number of an option, and what it is without it
pub record IsOptionNumber (found : Found) (id : List ℕ) (without n : ℕ) : Type 0 where
  pub absent : one_text found id ≡ None → n ≡ without
  pub given : (text : List ℕ) → one_text found id ≡ Some text
      → IsNumeral 10 (without_leading_plus text) → digits_value 10 (without_leading_plus text) < 2 ^ 32
      → n ≡ digits_value 10 (without_leading_plus text)

-- the number of an option, where it stands
pub record IsNumberGiven (found : Found) (id : List ℕ) (n : Option ℕ) : Type 0 where
  pub absent : one_text found id ≡ None → n ≡ None
  pub given : (text : List ℕ) → one_text found id ≡ Some text
      → IsNumeral 10 (without_leading_plus text) → digits_value 10 (without_leading_plus text) < 2 ^ 32
      → n ≡ Some (digits_value 10 (without_leading_plus text))

-- an option with a value stands
abbrev pub stands : Found → ArgName → Bool
stands found word = is_some (first_value found (arg_word word))

-- the values of an option, of all its uses
abbrev pub args_of : Found → List ℕ → List (List ℕ)
args_of found id = option_map_or raw_values (matched_of found id) []

-- a kind of races is among these words
abbrev pub names_kind : List (List ℕ) → RaceKind → Bool
names_kind words kind = list_any (λ word. bytes_eq word (kind_word kind)) words

-- the kinds of races that the words leave out
abbrev pub AreAllowed : Found → KindSet → Type 0
AreAllowed found set = (kind : RaceKind) → has_kind set kind ≡ names_kind (args_of found (arg_word words.Allow)) kind

-- after how many rounds of takes in a row without a find an instance gives up, where no option says
abbrev pub default_patience : ℕ
default_patience = 1000000000

-- what the words ask of races, of which so many are shown by runs where no word says it
pub record AreCheckOptions (found : Found) (shown : ℕ) (q : CheckOptions) : Type 0 where
  pub closest : IsFlag found (arg_word words.Closest) q.closest
  pub why : IsFlag found (arg_word words.Why) q.why
  pub allowed : AreAllowed found q.allowed
  pub most : IsOptionNumber found (arg_word words.Most) unlimited q.most
  pub show : IsOptionNumber found (arg_word words.Show) shown q.show
  pub short : IsFlag found (arg_word words.Short) q.short

-- the form that a word names: text, where none does
abbrev pub format_named : Option (List ℕ) → Format
format_named None = formats.Text
format_named (Some word) = unwrap_or (format_of_word word) formats.Text

-- the form of the answer that the words name
abbrev pub format : Found → Format
format found = format_named (first_value found (arg_word words.ChartFormat))

-- the same of the words of `ready`
abbrev pub format_of_sticks : Found → Format
format_of_sticks found = format_named (first_value found (arg_word words.FormatSticks))

-- how many races of a chart are shown by runs in a format, if no word gives a number
abbrev pub runs_in : Format → ℕ
runs_in format = cond (is_full format) 0 unlimited

-- whether findings have colours by a word, and as this says without one
abbrev pub colours_by : Option (List ℕ) → Bool → Bool
colours_by None auto = auto
colours_by (Some word) auto =
    cond (bytes_eq word (codes "always")) true (cond (bytes_eq word (codes "never")) false auto)

-- how the words want an answer to speak
pub record IsEventStyle (found : Found) (event_style : EventStyle) : Type 0 where
  pub places : IsFlag found (arg_word words.Places) event_style.places
  pub words_wanted : IsFlag found (arg_word words.Words) event_style.words

-- what the words say of queues besides the architecture: the text is asked for its own, and rules
-- for links
pub record AreLinkWords (found : Found) (links : LinkWords) : Type 0 where
  pub own : links.own ≡ asks_own found
  pub pairs : map (λ word. word.now) links.pairs.now ≡ args_of found (arg_word words.Pair)
  pub mailboxes : map (λ word. word.now) links.mailboxes.now ≡ args_of found (arg_word words.Mailbox)
  pub singles : map (λ word. word.now) links.singles.now ≡ args_of found (arg_word words.Single)

-- the words give a rule of a kind
abbrev pub has_rule : Found → ArgName → Bool
has_rule found word = not (nat_eq (length (args_of found (arg_word word))) 0)

-- the words give rules for links, and no architecture
abbrev pub lacks_queues : Found → Bool
lacks_queues found =
    not (is_some (architecture found)) && (has_rule found words.Pair || (has_rule found words.Mailbox || has_rule found words.Single))

-- there are none
pub record HasNoLinks (links : LinkWords) : Type 0 where
  pub own : links.own ≡ false
  pub pairs : links.pairs.now ≡ []
  pub mailboxes : links.mailboxes.now ≡ []
  pub singles : links.singles.now ≡ []

-- what the words of `check` ask of the races under an architecture
pub record AreCheckArgs (found : Found) (shown : ℕ) (c : CheckArgs) : Type 0 where
  pub architecture_is : architecture found ≡ Some c.queues
  pub options : AreCheckOptions found shown c.options
  pub accept : IsFlag found (arg_word words.Accept) c.accept
  pub again : IsFlag found (arg_word words.Again) c.again
  pub format_is : c.format ≡ format found
  pub auto : Bool
  pub colours : c.colours ≡ colours_by (first_value found (arg_word words.Color)) auto
  pub event_style : IsEventStyle found c.event_style
  pub following : c.following ≡ Help

-- what the words of `check` ask the status to tell alone
pub record AreQuietArgs (found : Found) (x : QuietArgs) : Type 0 where
  pub architecture_is : architecture found ≡ Some x.queues
  pub allowed : AreAllowed found x.allowed
  pub accept : IsFlag found (arg_word words.Accept) x.accept
  pub again : IsFlag found (arg_word words.Again) x.again

-- the words are of a diagram
abbrev pub is_of_scenarios : Found → Bool
is_of_scenarios found = stands found words.ScenariosFrom

-- words of diagrams are given, without the word for one
abbrev pub lacks_from : Found → Bool
lacks_from found =
    not (is_of_scenarios found)
    && ((stands found words.Rounds || stands found words.Limit)
    || ((stands found words.Fence || (stands found words.Name || stands found words.Choose))
    || (stands found words.Own || (stands found words.Cross || stands found words.Par))))

-- a word for numbers of rounds gives none
abbrev pub lacks_rounds : Option (List ℕ) → Bool
lacks_rounds None = false
lacks_rounds (Some word) = not (gives_rounds word)

-- how many scenarios a diagram may have where no option says, and how many an option may say
abbrev pub default_limit : ℕ
default_limit = 64

abbrev pub is_limit : ℕ → Bool
is_limit n = nat_le 1 n && nat_le n 4096

-- what the words of `explain` ask of two events under an architecture
pub record AreExplainArgs (found : Found) (x : ExplainArgs) : Type 0 where
  pub architecture_is : architecture found ≡ Some x.queues
  pub first : IsEventWord found (arg_word words.FirstEvent) x.first
  pub second : IsEventWord found (arg_word words.SecondEvent) x.second
  pub short : IsFlag found (arg_word words.Short) x.short
  pub event_style : IsEventStyle found x.event_style

-- what the words of `follow` ask of the drawing under an architecture
pub record AreFollowArgs (found : Found) (x : FollowArgs) : Type 0 where
  pub architecture_is : architecture found ≡ Some x.queues
  pub event_style : IsEventStyle found x.event_style

-- what the words of `ready` ask of ready instances under an architecture
pub record AreReadyArgs (found : Found) (x : ReadyArgs) : Type 0 where
  pub architecture_is : architecture found ≡ Some x.queues
  pub only : map (λ word. word.now) x.only.now ≡ args_of found (arg_word words.Only)
  pub show : IsOptionNumber found (arg_word words.ShowSticks) (runs_in (format_of_sticks found)) x.show
  pub again : IsFlag found (arg_word words.AgainSticks) x.again
  pub format_is : x.format ≡ format_of_sticks found
  pub auto : Bool
  pub colours : x.colours ≡ colours_by (first_value found (arg_word words.Color)) auto
  pub event_style : IsEventStyle found x.event_style

-- the file that a word names: the input, where none does
abbrev pub file_of_word : Option (List ℕ) → List ℕ
file_of_word None = codes "-"
file_of_word (Some word) = word

-- the file that the words name
abbrev pub file_of : Found → List ℕ
file_of found = file_of_word (first_value found (arg_word words.File))

-- the words ask for a picture in this form
abbrev pub IsDrawnFormat : Found → PictureFormat → Type 0
IsDrawnFormat found pictures.Text = IsFlag found (arg_word words.Svg) false
IsDrawnFormat found pictures.Svg = IsFlag found (arg_word words.Svg) true

-- what the words of `reverse` ask for
pub record AreReverseArgs (found : Found) (r : ReverseArgs) : Type 0 where
  pub architecture_is : architecture found ≡ Some r.queues
  pub first : IsEventWord found (arg_word words.FirstEvent) r.first
  pub second : IsEventWord found (arg_word words.SecondEvent) r.second
  pub format : IsDrawnFormat found r.format

-- the language that a word names: what the text tells, where none does
abbrev pub language_named : Option (List ℕ) → Language
language_named None = languages.Any
language_named (Some word) = cond (bytes_eq word (codes "mermaid")) languages.Mermaid languages.Any

-- what an arrow to oneself is by a word: an action, where none says it
abbrev pub own_named : Option (List ℕ) → Own
own_named None = owns.Action
own_named (Some word) = cond (bytes_eq word (codes "message")) owns.Message owns.Action

-- what an arrow with a cross is by a word: not said, where none does
abbrev pub cross_named : Option (List ℕ) → Option Cross
cross_named None = None
cross_named (Some word) = cond (bytes_eq word (codes "lost")) (Some crosses.Lost) (Some crosses.Arrives)

-- what parallel branches are that are no coregion: a fault, where no word stands
abbrev pub par_named : Option (List ℕ) → Par
par_named None = pars.Refused
par_named (Some word) = pars.Drawn

-- what the name of a chart is made of: a word, and where none stands the title of the file
abbrev pub chart_named : Found → List ℕ
chart_named found = unwrap_or (first_value found (arg_word words.Name)) (title_of (file_of found))

-- a word for choices gives none
abbrev pub lacks_choices : Option (List ℕ) → Bool
lacks_choices None = false
lacks_choices (Some word) = not (gives_choices word)

-- what the words say of a diagram
pub record IsDiagram (found : Found) (x : DiagramArgs) : Type 0 where
  pub language : x.language ≡ language_named (first_value found (arg_word words.From))
  pub fence : IsNumberGiven found (arg_word words.Fence) x.fence
  pub cross : x.cross ≡ cross_named (first_value found (arg_word words.Cross))
  pub own : x.manner.own ≡ own_named (first_value found (arg_word words.Own))
  pub par : x.manner.par ≡ par_named (first_value found (arg_word words.Par))
  pub name : x.name.now ≡ chart_named found

-- what the words say of a scenario of a diagram
pub record AreChosen (found : Found) (x : ChosenArgs) : Type 0 where
  pub diagram : IsDiagram found x.diagram
  pub choose : option_map (λ c. c.now) x.choose ≡ first_value found (arg_word words.Choose)
  pub gives : lacks_choices (first_value found (arg_word words.Choose)) ≡ false

-- what the words of `import` ask for
pub record IsImporting (found : Found) (x : ImportArgs) : Type 0 where
  pub chosen : AreChosen found x.chosen
  pub list : IsFlag found (arg_word words.Listed) x.list

-- how many races of a diagram are shown by runs in a format, if no word gives a number: all if runs are
-- asked for, but of findings as people read them none
abbrev pub shown_by : Format → Bool → ℕ
shown_by format asks = cond (asks && not (is_full format)) unlimited 0

-- the same by the words: they ask for runs in words, or for short ones
pub record AreRunsShown (format : Format) (found : Found) (shown : ℕ) : Type 0 where
  pub in_words : Bool
  pub words_wanted : IsFlag found (arg_word words.Words) in_words
  pub short : Bool
  pub short_wanted : IsFlag found (arg_word words.Short) short
  pub number : shown ≡ shown_by format (in_words || short)

-- what the words of `check` ask of the scenarios of a diagram
pub record IsSurvey (found : Found) (x : ScenarioArgs) : Type 0 where
  pub diagram : IsDiagram found x.diagram
  pub rounds : option_map (λ r. r.now) x.rounds ≡ first_value found (arg_word words.Rounds)
  pub gives : lacks_rounds (first_value found (arg_word words.Rounds)) ≡ false
  pub limit : IsOptionNumber found (arg_word words.Limit) default_limit x.limit
  pub within : is_limit x.limit ≡ true
  pub choose : option_map (λ c. c.now) x.choose ≡ first_value found (arg_word words.Choose)
  pub chooses : lacks_choices (first_value found (arg_word words.Choose)) ≡ false
  pub shown : ℕ
  pub runs : AreRunsShown (format found) found shown
  pub check_args : AreCheckArgs found shown x.check_args
  pub once : x.check_args.again ≡ false
  pub links : AreLinkWords found x.links
  pub quiet : IsFlag found (arg_word words.Quiet) x.quiet

-- the words of `check` are of a chart: none of them is of diagrams
abbrev pub IsOfChart : Found → Type 0
IsOfChart found = (is_of_scenarios found ≡ false) × (lacks_from found ≡ false)

-- the scenario of a diagram that the words are for, if they are for one
abbrev pub IsOrigin : Found → Option ChosenArgs → Type 0
IsOrigin found None = IsOfChart found
IsOrigin found (Some x) = (is_of_scenarios found ≡ true) × (lacks_from found ≡ false) × AreChosen found x

-- what the words say of the text besides the command
pub record AreTextArgs (found : Found) (x : TextArgs) : Type 0 where
  pub diagram : IsOrigin found x.diagram
  pub links : AreLinkWords found x.links

-- a diagram is given, and none of its scenarios
abbrev pub is_of_all : Option ChosenArgs → Bool
is_of_all None = false
is_of_all (Some x) = not (is_some x.choose)

-- what the words of `report` ask of all scenarios of a diagram
pub record AreReportArgs (found : Found) (x : ReportArgs) : Type 0 where
  pub architecture_is : architecture found ≡ Some x.queues
  pub text : TextArgs
  pub text_is : AreTextArgs found text
  pub chosen : ChosenArgs
  pub chosen_is : text.diagram ≡ Some chosen
  pub all : is_some chosen.choose ≡ false
  pub diagram_is : x.diagram ≡ chosen.diagram
  pub links_are : x.links ≡ text.links

-- What the words behind a command ask for. What is to be quiet is told by the status alone.
abbrev pub AsksFor : CommandName → Found → Task → Type 0
AsksFor command_names.Read found (Read chosen) = IsOrigin found chosen
AsksFor command_names.Check found (Chart (Check c) text) =
    IsOfChart found × IsFlag found (arg_word words.Quiet) false × AreCheckArgs found (runs_in (format found)) c
    × (text.diagram ≡ None) × AreLinkWords found text.links
AsksFor command_names.Check found (Chart (Quiet x) text) =
    IsOfChart found × IsFlag found (arg_word words.Quiet) true × AreQuietArgs found x × (text.diagram ≡ None) × AreLinkWords found text.links
AsksFor command_names.Check found (Scenarios x) = (is_of_scenarios found ≡ true) × IsSurvey found x
AsksFor command_names.Explain found (Chart (Explain x) text) = AreExplainArgs found x × AreTextArgs found text
AsksFor command_names.Follow found (Chart (Follow x) text) = AreFollowArgs found x × AreTextArgs found text
AsksFor command_names.Run found (Chart (Run queues patience) text) =
    IsOptionNumber found (arg_word words.Patience) default_patience patience
    × (architecture found ≡ Some queues) × AreTextArgs found text
AsksFor command_names.List found (Chart (Listing placed) text) =
    IsFlag found (arg_word words.Places) placed × IsOrigin found text.diagram × HasNoLinks text.links
AsksFor command_names.Draw found (Draw (drawn.Chart queues format) text) =
    (queues ≡ architecture found) × IsDrawnFormat found format × AreTextArgs found text × (lacks_queues found ≡ false)
AsksFor command_names.Reverse found (Draw (drawn.Run r) text) = AreReverseArgs found r × AreTextArgs found text
AsksFor command_names.Report found (Draw (drawn.Report queues) text) =
    (architecture found ≡ Some queues) × AreTextArgs found text × (is_of_all text.diagram ≡ false)
AsksFor command_names.Report found (Report x) = AreReportArgs found x
AsksFor command_names.Ready found (Chart (Ready x) text) =
    AreReadyArgs found x × AreTextArgs found text
AsksFor command_names.Import found (Import x) = IsImporting found x
AsksFor command_name found task = ⊥

-- words stand that exclude each other: that places are told, and that no more than plain lines are
pub record IsTwofold (found : Found) (twofold : Bool) : Type 0 where
  pub places : Bool
  pub plain : Bool
  pub wants : IsFlag found (arg_word words.Places) places
  pub forbids : IsFlag found (arg_word words.Plain) plain
  pub both : twofold ≡ (places && plain)

-- whether what is said of a refusal is told behind its line: where places are asked for, and on a
-- terminal unless plain lines are
abbrev pub tells_notes : Bool → Bool → Bool → Bool
tells_notes places plain terminal = places || (terminal && not plain)

-- the words want it, where standard error is a terminal or not
pub record WantsNotes (found : Found) (terminal notes : Bool) : Type 0 where
  pub places : Bool
  pub plain : Bool
  pub wants : IsFlag found (arg_word words.Places) places
  pub forbids : IsFlag found (arg_word words.Plain) plain
  pub is : notes ≡ tells_notes places plain terminal

-- The commands of the program and their words, as `clap` reads them.
use Rattle.std.specs.Prelude.{◌≡◌, List, [], ◌∷◌, Option, Some, codes, map, option_and_then, pos, slice_get, true, false}
use Rattle.std.specs.Borrow.{Bor}
use Rattle.std.specs.Option.{option_map_or}
use Rattle.clap.specs.Words.{App, IsAmong, Row, Rule, Text, app_of, fault_of, new_app, new_rule, rule_of, subcommand_of, with_rule, with_subcommand}
use Rattle.clap.specs.declared.builder.action.ArgAction.TheVariants.{Append, SetTrue}
use Rattle.clap.specs.declared.builder.arg.Arg.{Arg}
use Rattle.clap.specs.declared.builder.command.Command.{Command}
use Rattle.clap.specs.declared.builder.command.Command.TheViews.{out-Command}
use Rattle.clap.specs.declared.builder.value_parser.ValueParser.{ValueParser}
use Rattle.clap.specs.declared.builder.value_parser.ValueParser.TheVariants.{Names, Signed}
use Rattle.clap.specs.declared.error.kind.ErrorKind.{ErrorKind}
use Rattle.msc_chart.specs.Architectures.{link_word}
use Rattle.msc_chart.specs.declared.queue.LinkKind.TheVariants.{Pair, Mailbox, Single}
use Rattle.msc_command.specs.declared.alternatives.Choices.{Choices}
use Rattle.msc_answer.specs.declared.tasks.Format.TheVariants as formats
use Rattle.msc_command.specs.declared.words.ValueKind.{ValueKind}
use Rattle.msc_command.specs.declared.words.ValueKind.TheVariants as value_kind
use Rattle.msc_command.specs.declared.words.CommandName.{CommandName}
use Rattle.msc_command.specs.declared.words.ArgName.{ArgName}
use Rattle.msc_command.specs.Words.{value_kind_of, command_word, command_of_word, command_names, arg_word, args_of, color_words, cross_words, language_words, own_words, par_words, scan_format_words, scan_queue_words, shell_words, stick_format_words}
use Rattle.msc_answer.specs.Tasks.{format_word}
use Rattle.msc_reason.specs.Causes.{kind_word}
use Rattle.msc_reason.specs.declared.cause.RaceKind.TheVariants.{Early, Queues, Unordered, Overtaken}

-- the words of the architectures, and the one for the text's own queues
abbrev pub architecture_words : List Text
architecture_words = link_word Pair ∷ link_word Mailbox ∷ link_word Single ∷ codes "own" ∷ []

-- the words of the kinds of races
abbrev pub kind_words : List Text
kind_words = kind_word Early ∷ kind_word Queues ∷ kind_word Unordered ∷ kind_word Overtaken ∷ []

-- the words of the forms of an answer
abbrev pub format_words : List Text
format_words = format_word formats.Text ∷ format_word formats.Count ∷ format_word formats.Lines ∷ format_word formats.Full ∷ []

-- an argument is read by a rule
abbrev pub IsArgument : Rule → Arg → Type 0
IsArgument rule argument = (rule_of argument ≡ rule) × (argument.global ≡ false)

-- a command is read as one with these rules and subcommands
abbrev pub IsCommand : App → Command → Type 0
IsCommand app command = (app_of command ≡ app) × ((out-Command command).has_globals ≡ false)

-- a number of 32 bits
abbrev pub number_parser : ValueParser
number_parser = Signed (pos 0) (pos 4294967295)

-- an argument that names a file or an event
abbrev pub file_rule : Text → Rule
file_rule name = record (new_rule name) { required = true }

-- one or more arguments that name files and folders
abbrev pub paths_rule : Text → Rule
paths_rule name = record (file_rule name) { action = Some Append }

-- an argument that is one of the words that a parser takes
abbrev pub one_rule : Text → ValueParser → Rule
one_rule name parser = record (new_rule name) { parser = Some parser; required = true }

-- an option that stands alone
abbrev pub flag_rule : Text → Rule
flag_rule name = record (new_rule name) { long = Some name; action = Some SetTrue }

-- an option that stands alone, also as the letter q
abbrev pub letter_rule : Text → Rule
letter_rule name = record (flag_rule name) { short = Some 113 }

-- an option with a number
abbrev pub number_rule : Text → Rule
number_rule name = record (new_rule name) {
  long = Some name;
  value_names = 1;
  parser = Some number_parser;
}

-- an option with any text
abbrev pub text_rule : Text → Rule
text_rule name = record (new_rule name) { long = Some name; value_names = 1 }

-- an option with one of the words that a parser takes
abbrev pub choice_rule : Text → ValueParser → Rule
choice_rule name parser = record (new_rule name) {
  long = Some name;
  value_names = 1;
  parser = Some parser;
}

-- such an option that has to stand
abbrev pub needed_rule : Text → ValueParser → Rule
needed_rule name parser = record (choice_rule name parser) { required = true }

-- such an option that may stand often
abbrev pub choices_rule : Text → ValueParser → Rule
choices_rule name parser = record (choice_rule name parser) { action = Some Append }

-- an option with a name that may stand often
abbrev pub names_rule : Text → Rule
names_rule name = record (new_rule name) {
  long = Some name;
  value_names = 1;
  action = Some Append;
}

-- the parsers of the words of which options take one
pub record Parsers : Type 0 where
  pub architectures : ValueParser
  pub kinds : ValueParser
  pub formats : ValueParser
  pub stick_formats : ValueParser
  pub scan_queues : ValueParser
  pub scan_formats : ValueParser
  pub colors : ValueParser
  pub languages : ValueParser
  pub owns : ValueParser
  pub crosses : ValueParser
  pub pars : ValueParser
  pub shells : ValueParser

-- those that take these words
abbrev pub parsers_of : Choices → Parsers
parsers_of lent = record {
  architectures = Names lent.architectures.words;
  kinds = Names lent.kinds.words;
  formats = Names lent.formats.words;
  stick_formats = Names lent.stick_formats.words;
  scan_queues = Names lent.scan_queues.words;
  scan_formats = Names lent.scan_formats.words;
  colors = Names lent.colors.words;
  languages = Names lent.languages.words;
  owns = Names lent.owns.words;
  crosses = Names lent.crosses.words;
  pars = Names lent.pars.words;
  shells = Names lent.shells.words;
}

-- how a word of this name that takes this is read
abbrev pub rule_by : Parsers → Text → ValueKind → Rule
rule_by p name value_kind.File = file_rule name
rule_by p name value_kind.Paths = paths_rule name
rule_by p name value_kind.Event = file_rule name
rule_by p name value_kind.Shell = one_rule name p.shells
rule_by p name value_kind.Nothing = flag_rule name
rule_by p name value_kind.NothingOrQ = letter_rule name
rule_by p name value_kind.Number = number_rule name
rule_by p name value_kind.Architecture = needed_rule name p.architectures
rule_by p name value_kind.ArchitectureIfAny = choice_rule name p.architectures
rule_by p name value_kind.Architectures = choices_rule name p.scan_queues
rule_by p name value_kind.Kinds = choices_rule name p.kinds
rule_by p name value_kind.Format = choice_rule name p.formats
rule_by p name value_kind.FormatSticks = choice_rule name p.stick_formats
rule_by p name value_kind.ScanFormat = choice_rule name p.scan_formats
rule_by p name value_kind.Color = choice_rule name p.colors
rule_by p name value_kind.Names = names_rule name
rule_by p name value_kind.Links = names_rule name
rule_by p name value_kind.Language = choice_rule name p.languages
rule_by p name value_kind.Choices = text_rule name
rule_by p name value_kind.Rounds = text_rule name
rule_by p name value_kind.Name = text_rule name
rule_by p name value_kind.Own = choice_rule name p.owns
rule_by p name value_kind.Cross = choice_rule name p.crosses
rule_by p name value_kind.Par = choice_rule name p.pars

-- how a word behind a command is read
abbrev pub rule_of_arg : Parsers → ArgName → Rule
rule_of_arg p word = rule_by p (arg_word word) (value_kind_of word)

-- a command with these words behind it
abbrev pub with_words : Parsers → App → List ArgName → App
with_words p app [] = app
with_words p app (word ∷ words) = with_words p (with_rule app (rule_of_arg p word)) words

-- a command of the program
abbrev pub command_of : Parsers → CommandName → App
command_of p command_name = with_words p (new_app (command_word command_name)) (args_of command_name)

-- `msc` alone, which has a version and wants one of its commands
abbrev pub bare_command : App
bare_command = record (new_app (codes "msc")) {
  top = record (new_app (codes "msc")).top { has_version = true; subcommand_required = true };
}

-- a program with these commands
abbrev pub with_commands : Parsers → App → List CommandName → App
with_commands p app [] = app
with_commands p app (command_name ∷ rest) = with_commands p (with_subcommand app (command_of p command_name).top) rest

-- `msc` with its commands
abbrev pub whole_command : Parsers → App
whole_command p = with_commands p bare_command command_names

-- the command that words name, behind the program's name
abbrev pub begun_by : List Text → Option CommandName
begun_by words = option_and_then command_of_word (slice_get words 1)

-- the commands of which `clap` is told for words: the one that they name, and else all
abbrev pub commands_for : List Text → List CommandName
commands_for words = option_map_or (λ command_name. command_name ∷ []) (begun_by words) command_names

-- a parser takes just these words
abbrev pub IsOneOf : List Text → ValueParser → Type 0
IsOneOf words parser = (names : Bor (List (Bor Text)))
    × (parser ≡ Names names) × (map (λ name. name.now) names.now ≡ words)

-- the parsers take the words of architectures, of kinds, of forms, of colours, of languages, of what
-- arrows and parallel branches are, and of shells
pub record AreParsers (p : Parsers) : Type 0 where
  pub architectures : IsOneOf architecture_words p.architectures
  pub kinds : IsOneOf kind_words p.kinds
  pub formats : IsOneOf format_words p.formats
  pub stick_formats : IsOneOf stick_format_words p.stick_formats
  pub scan_queues : IsOneOf scan_queue_words p.scan_queues
  pub scan_formats : IsOneOf scan_format_words p.scan_formats
  pub colors : IsOneOf color_words p.colors
  pub languages : IsOneOf language_words p.languages
  pub owns : IsOneOf own_words p.owns
  pub crosses : IsOneOf cross_words p.crosses
  pub pars : IsOneOf par_words p.pars
  pub shells : IsOneOf shell_words p.shells

-- what `clap` is told of the program's words
abbrev pub IsGrammar : App → Type 0
IsGrammar grammar = (p : Parsers) × AreParsers p × (grammar ≡ whole_command p)

-- The words of a command line, the program's name first, are taken: they name a command, of whose
-- words this is found.
abbrev pub AreTaken : List Text → Text × List Row → Type 0
AreTaken words named = (grammar : App) × IsGrammar grammar × (fault_of grammar words ≡ [])
    × (subcommand_of grammar words ≡ Some named)

-- the words are not taken: they ask for help or for the version, or have a fault of this kind
abbrev pub AreAnswered : List Text → ErrorKind → Type 0
AreAnswered words kind = (grammar : App) × IsGrammar grammar × IsAmong kind (fault_of grammar words)

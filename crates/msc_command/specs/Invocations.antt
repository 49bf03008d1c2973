-- What the words of a command line ask for: a task on a file, a scan, or the completions of a shell.
use Rattle.std.specs.Prelude.{◌≡◌, Option, Some, option_and_then}
use Rattle.clap.specs.Matches.{first_value}
use Rattle.clap.specs.declared.parser.matches.Found.{Found}
use Rattle.msc_command.specs.Asking.{AsksFor}
use Rattle.msc_command.specs.Scanning.{AreScanArgs}
use Rattle.msc_command.specs.Words.{arg_word, shell_of_word}
use Rattle.msc_command.specs.declared.invocation.Invocation.{Invocation}
use Rattle.msc_command.specs.declared.invocation.Invocation.TheVariants as invocations
use Rattle.msc_command.specs.declared.words.ArgName.TheVariants as words
use Rattle.msc_command.specs.declared.words.CommandName.{CommandName}
use Rattle.msc_command.specs.declared.words.CommandName.TheVariants as command_names
use Rattle.msc_command.specs.declared.words.Shell.{Shell}

-- the shell that the words name
abbrev pub shell_in : Found → Option Shell
shell_in found = option_and_then shell_of_word (first_value found (arg_word words.Shell))

-- what the words of a command ask for
abbrev pub Invokes : CommandName → Found → Invocation → Type 0
Invokes command_name found (invocations.Task task) = AsksFor command_name found task
Invokes command_names.Scan found (invocations.Scan args) = AreScanArgs found args
Invokes command_names.Completions found (invocations.Completions shell) = shell_in found ≡ Some shell
Invokes command_name found invocation = ⊥

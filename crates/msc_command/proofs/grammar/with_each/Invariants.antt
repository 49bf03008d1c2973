use Rattle.std.specs.Prelude.{◌≡◌, drop}
use Rattle.clap.specs.Words.{App}
use Rattle.msc_command.specs.Grammar.{bare_command, parsers_of, with_commands, IsCommand}
use Rattle.msc_command.proofs.grammar.with_each.Given as goal

-- with the commands that are left it is the program with all of these
abbrev pub invariant-loop-command_name : goal.invariant-loop-command_name
invariant-loop-command_name l = (app : App) × IsCommand app l.command
    × (with_commands (parsers_of l.lent) app (drop l.command_name-index l.command_names) ≡ with_commands (parsers_of l.lent) bare_command l.command_names)

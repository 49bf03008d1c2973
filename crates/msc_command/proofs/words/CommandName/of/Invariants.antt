use Rattle.std.proofs.Common.{◌≡◌, drop, find}
use Rattle.std.specs.Str.{bytes_eq}
use Rattle.msc_command.specs.Words.{command_word}
use Rattle.msc_command.proofs.words.CommandName.of.Given as goal

-- no command so far has the name
abbrev pub invariant-loop-command_name : goal.invariant-loop-command_name
invariant-loop-command_name l =
    find (λ command_name. bytes_eq l.name (command_word command_name)) (drop l.command_name-index l.command_name-items)
    ≡ find (λ command_name. bytes_eq l.name (command_word command_name)) l.command_name-items

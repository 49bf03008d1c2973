use Rattle.std.proofs.Common.{◌≡◌, drop, find}
use Rattle.std.specs.Str.{bytes_eq}
use Rattle.msc_command.specs.Words.{shell_word}
use Rattle.msc_command.proofs.words.Shell.of.Given as goal

-- no shell so far has the name
abbrev pub invariant-loop-shell : goal.invariant-loop-shell
invariant-loop-shell l =
    find (λ shell. bytes_eq l.name (shell_word shell)) (drop l.shell-index l.shell-items)
    ≡ find (λ shell. bytes_eq l.name (shell_word shell)) l.shell-items

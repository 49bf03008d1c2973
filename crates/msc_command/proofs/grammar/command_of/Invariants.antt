use Rattle.std.specs.Prelude.{◌≡◌, drop}
use Rattle.clap.specs.Words.{App}
use Rattle.msc_command.specs.Grammar.{command_of, parsers_of, with_words, IsCommand}
use Rattle.msc_command.proofs.grammar.command_of.Given as goal

-- with the words that are left it is the whole command
abbrev pub invariant-loop-word : goal.invariant-loop-word
invariant-loop-word l = (app : App) × IsCommand app l.command
    × (with_words (parsers_of l.lent) app (drop l.word-index l.word-items) ≡ command_of (parsers_of l.lent) l.fn.command_name)

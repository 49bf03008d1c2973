use Rattle.std.proofs.Common.{◌≡◌, true, get_or, sym, refl, ◌∙◌, find, arith, rules}
use Rattle.std.specs.Str.{bytes_eq}
use Rattle.std.proofs.lemmas.List.{at_drop_more, at_drop_all}
use Rattle.msc_command.specs.declared.words.Shell.{Shell}
use Rattle.msc_command.specs.declared.words.Shell.TheVariants.{Bash}
use Rattle.msc_command.specs.Words.{shell_names, shell_of_word, shell_word}
use Rattle.msc_command.proofs.words.Shell.of.Goals as goal

pub returns-then-eq : goal.returns-then-eq
unfolding shell_of_word
returns-then-eq c =
    let i = c.loop-shell.shell-index in
    let is = λ (shell : Shell). bytes_eq c.args.name.now (shell_word shell) in
    let same : is (get_or shell_names i Bash) ≡ true = search rules in
    sym (at_drop_more (find is) shell_names i Bash (omega (arith, c.loop-shell-test.true)) ∙ rw same refl) ∙ c.loop-shell.invariant

pub returns : goal.returns
unfolding shell_of_word
returns c =
    sym (at_drop_all (find (λ (shell : Shell). bytes_eq c.args.name.now (shell_word shell))) shell_names c.loop-shell.shell-index (omega (arith, c.loop-shell-test.false)))
    ∙ c.loop-shell.invariant

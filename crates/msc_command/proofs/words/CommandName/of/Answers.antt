use Rattle.std.proofs.Common.{◌≡◌, true, get_or, sym, refl, ◌∙◌, find, arith, rules}
use Rattle.std.specs.Str.{bytes_eq}
use Rattle.std.proofs.lemmas.List.{at_drop_more, at_drop_all}
use Rattle.msc_command.specs.declared.words.CommandName.{CommandName}
use Rattle.msc_command.specs.declared.words.CommandName.TheVariants.{Read}
use Rattle.msc_command.specs.Words.{command_word, command_of_word, command_names}
use Rattle.msc_command.proofs.words.CommandName.of.Goals as goal

pub returns-then-eq : goal.returns-then-eq
unfolding command_of_word
returns-then-eq c =
    let i = c.loop-command_name.command_name-index in
    let is = λ (command_name : CommandName). bytes_eq c.args.name.now (command_word command_name) in
    let same : is (get_or command_names i Read) ≡ true = search rules in
    sym (at_drop_more (find is) command_names i Read (omega (arith, c.loop-command_name-test.true)) ∙ rw same refl) ∙ c.loop-command_name.invariant

pub returns : goal.returns
unfolding command_of_word
returns c =
    sym (at_drop_all (find (λ (command_name : CommandName). bytes_eq c.args.name.now (command_word command_name))) command_names c.loop-command_name.command_name-index (omega (arith, c.loop-command_name-test.false)))
    ∙ c.loop-command_name.invariant

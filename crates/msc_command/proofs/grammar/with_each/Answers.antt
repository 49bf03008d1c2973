use Rattle.std.proofs.Common.{◌<◌, ◌∙◌, ℕ, List, length, ap, sym, subst, arith}
use Rattle.std.proofs.lemmas.List.{at_drop_all, drop_more}
use Rattle.std.specs.Prelude.{get_or}
use Rattle.clap.specs.Words.{App, with_subcommand}
use Rattle.msc_command.specs.declared.words.CommandName.{CommandName}
use Rattle.msc_command.specs.declared.words.CommandName.TheVariants.{Read}
use Rattle.msc_command.specs.Grammar.{command_of, parsers_of, with_commands, IsCommand}
use Rattle.msc_command.proofs.grammar.with_each.Goals as goal

pub loop-command_name-preserved : goal.loop-command_name-preserved
loop-command_name-preserved c =
    let command_names : List CommandName = c.args.command_names.now in
    let at : ℕ = c.loop-command_name.command_name-index in
    let p = parsers_of c.args.lent in
    let inv = c.loop-command_name.invariant in
    let within : at < length command_names = omega (arith, c.loop-command_name-test.true) in (
      with_subcommand inv.0 (command_of p (get_or command_names at Read)).top,
      c.in_ok-command-2.ensures _ _ inv.1 c.in_ok-command_of.ensures,
      sym (ap (with_commands p inv.0) (drop_more command_names at Read within)) ∙ inv.2,
    )

pub returns : goal.returns
returns c =
    let p = parsers_of c.args.lent in
    let inv = c.loop-command_name.invariant in
    subst (λ (app : App). IsCommand app c.loop-command_name.command)
    (sym (at_drop_all (with_commands p inv.0) c.args.command_names.now c.loop-command_name.command_name-index (omega (arith, c.loop-command_name-test.false))) ∙ inv.2) inv.1

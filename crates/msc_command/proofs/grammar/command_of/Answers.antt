use Rattle.std.proofs.Common.{◌<◌, ◌∙◌, ℕ, List, length, ap, sym, arith}
use Rattle.std.proofs.lemmas.List.{drop_more}
use Rattle.std.specs.Prelude.{get_or}
use Rattle.clap.specs.Words.{with_rule}
use Rattle.msc_command.specs.declared.words.ArgName.{ArgName}
use Rattle.msc_command.specs.declared.words.ArgName.TheVariants.{File}
use Rattle.msc_command.specs.Grammar.{parsers_of, rule_of_arg, with_words}
use Rattle.msc_command.proofs.grammar.command_of.Goals as goal

pub loop-word-preserved : goal.loop-word-preserved
loop-word-preserved c =
    let words : List ArgName = c.words-word-items.result.now in
    let at : ℕ = c.loop-word.word-index in
    let p = parsers_of c.args.lent in
    let inv = c.loop-word.invariant in
    let within : at < length words = omega (arith, c.loop-word-test.true) in (
      with_rule inv.0 (rule_of_arg p (get_or words at File)),
      c.in_ok-command-2.ensures _ _ inv.1 c.argument.ensures,
      sym (ap (with_words p inv.0) (drop_more words at File within)) ∙ inv.2,
    )

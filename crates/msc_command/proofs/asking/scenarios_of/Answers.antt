use Rattle.std.proofs.Common.{Bool, refl, subst}
use Rattle.std.proofs.lemmas.Result.{err_from_is_err_and}
use Rattle.clap.specs.Matches.{found_of}
use Rattle.msc_command.specs.Asking.{IsFlag}
use Rattle.msc_command.specs.Misuses.IsDiagramMisuse.{again, choices, limit, rounds}
use Rattle.msc_command.specs.Words.{arg_word}
use Rattle.msc_command.specs.declared.words.ArgName.TheVariants as words
use Rattle.msc_command.proofs.asking.scenarios_of.Goals as goal

pub returns-then-check_args-clause-misuse : goal.returns-then-check_args-clause-misuse
returns-then-check_args-clause-misuse c = λ named.
    let flag = λ (b : Bool). IsFlag (found_of c.args.words.now) (arg_word words.Again) b in
    again (refl, subst flag c.if-check_args.true (c.check_args_of-check_args.ensures named).again)

pub returns-in_err-rounds_word-clause-misuse : goal.returns-in_err-rounds_word-clause-misuse
returns-in_err-rounds_word-clause-misuse c = λ named.
    let flag = λ (b : Bool). IsFlag (found_of c.args.words.now) (arg_word words.Again) b in
    let once = subst flag c.if-check_args.false (c.check_args_of-check_args.ensures named).again in
    let p = err_from_is_err_and c.from_residual.result c.from_residual.ensures.1 in
    rw (p.1, p.2) (rounds once c.in_err-rounds_word.ensures.misuse)

pub returns-in_err-limit_in-clause-misuse : goal.returns-in_err-limit_in-clause-misuse
returns-in_err-limit_in-clause-misuse c = λ named.
    let flag = λ (b : Bool). IsFlag (found_of c.args.words.now) (arg_word words.Again) b in
    let once = subst flag c.if-check_args.false (c.check_args_of-check_args.ensures named).again in
    let p = err_from_is_err_and c.from_residual-in_err-limit_in.result c.from_residual-in_err-limit_in.ensures.1 in
    rw (p.1, p.2) (limit once c.in_ok-rounds_word.ensures.gives c.in_err-limit_in.ensures.misuse)

pub returns-in_err-choices_word-clause-misuse : goal.returns-in_err-choices_word-clause-misuse
returns-in_err-choices_word-clause-misuse c = λ named.
    let flag = λ (b : Bool). IsFlag (found_of c.args.words.now) (arg_word words.Again) b in
    let once = subst flag c.if-check_args.false (c.check_args_of-check_args.ensures named).again in
    let p = err_from_is_err_and c.from_residual-in_err-choices_word.result c.from_residual-in_err-choices_word.ensures.1 in
    rw (p.1, p.2) (choices c.in_ok-limit_in.field-0 once c.in_ok-rounds_word.ensures.gives c.in_ok-limit_in.ensures.given c.in_ok-limit_in.ensures.within c.in_err-choices_word.ensures.misuse)

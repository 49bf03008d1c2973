use Rattle.std.proofs.Common.{rules, Bool, Err, ap, ◌∙◌}
use Rattle.std.proofs.lemmas.Result.{err_from_is_err_and}
use Rattle.msc_print.proofs.PrintLemmas.{prints_begun, prints_failed, prints_put}
use Rattle.msc_print.proofs.printer.print_by.Goals as goal

pub returns-in-Some-clause-put : goal.returns-in-Some-clause-put
returns-in-Some-clause-put g c text is =
    prints_failed _ c.print-answer.new.printer text (c.print-answer.ensures.printed text is).1 _ _ _ _ (search rules) (search rules) (search rules) (search rules)
    Bool c.in-Some.fault (search rules)

pub returns-in_err-answer-clause-put : goal.returns-in_err-answer-clause-put
returns-in_err-answer-clause-put g c text is =
    let exit = err_from_is_err_and c.from_residual.result c.from_residual.ensures.1 in
    prints_begun _ c.print-answer.new.printer text (c.print-answer.ensures.printed text is).1 _ _ _ _ (search rules) (search rules) (search rules) (search rules)
    Bool c.from_residual.result (exit.1 ∙ ap Err exit.2) (search rules)

pub returns-clause-put : goal.returns-clause-put
returns-clause-put g c text is =
    prints_put _ c.print-answer.new.printer text (c.print-answer.ensures.printed text is).1 _ _ _ _ (search rules) (search rules) (search rules) (search rules)
    (search rules)

use Rattle.std.proofs.Common.{Err, Ok, option_map}
use Rattle.std.proofs.lemmas.Result.{err_from_is_err_and}
use Rattle.msc_answer.proofs.ImportPages.{not_on_page, not_read, on_page, with_given}
use Rattle.msc_answer.specs.Importing.{choices_of, wanted_of}
use Rattle.msc_answer.proofs.importing.page_with.Goals as goal

pub returns-in_err-diagram : goal.returns-in_err-diagram
returns-in_err-diagram c =
    let p = err_from_is_err_and c.from_residual.result c.from_residual.ensures.1 in
    let x = c.args.words in
    rw (p.1, p.2) (not_on_page x c.args.text.now c.args.file.now _
    (not_read c.reading_comes_first.ensures (wanted_of x.chosen) c.args.text.now _ (c.in_err-diagram.ensures (choices_of x.chosen))))

pub page_of-requires-clause-read : goal.page_of-requires-clause-read
page_of-requires-clause-read c = c.in_ok-diagram.ensures (choices_of c.args.words.chosen)

pub returns-in_err-imported : goal.returns-in_err-imported
returns-in_err-imported c =
    let p = err_from_is_err_and c.from_residual-in_err-imported.result c.from_residual-in_err-imported.ensures.1 in
    let x = c.args.words in let text = c.args.text.now in
    let given = option_map (λ c. c.now) c.args.choices in
    rw (p.1, p.2) (not_on_page x text c.args.file.now _
    (with_given x.chosen.diagram text given (choices_of x.chosen) c.requires (Err c.in_err-imported.field-0.0) (c.in_err-imported.ensures text (c.in_ok-diagram.ensures given))))

pub returns : goal.returns
returns c =
    let x = c.args.words in let text = c.args.text.now in
    let given = option_map (λ c. c.now) c.args.choices in
    on_page x text c.args.file.now c.imports_are_charts.ensures.one c.in_ok-imported.imported c.page_of.result
    (with_given x.chosen.diagram text given (choices_of x.chosen) c.requires (Ok c.in_ok-imported.imported) (c.in_ok-imported.ensures text (c.in_ok-diagram.ensures given))) c.page_of.ensures

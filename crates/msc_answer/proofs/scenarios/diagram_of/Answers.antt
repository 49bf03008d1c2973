use Rattle.std.proofs.lemmas.Result.{err_from_is_err_and}
use Rattle.msc_import.specs.Importing.{read}
use Rattle.msc_answer.proofs.ImportPages.{not_imported}
use Rattle.msc_answer.specs.Importing.{reading_in}
use Rattle.msc_answer.proofs.scenarios.diagram_of.Goals as goal

pub returns-in_err-diagram : goal.returns-in_err-diagram
returns-in_err-diagram c =
    let p = err_from_is_err_and c.from_residual.result c.from_residual.ensures.1 in
    let given = rw c.reading_of.ensures at c.in_err-diagram.ensures in
    rw (p.1, p.2) (not_imported (read (reading_in c.args.words.diagram) c.args.text.now) _ given)

pub returns : goal.returns
returns c = rw c.reading_of.ensures at c.in_ok-diagram.ensures

use Rattle.std.proofs.Common.{refl}
use Rattle.std.proofs.lemmas.Result.{err_from_is_err_and}
use Rattle.msc_answer.proofs.Answered.{print_so}
use Rattle.msc_answer.proofs.ImportPages.{unprinted}
use Rattle.msc_answer.specs.Importing.{PrintsImportPage, RefusesImport}
use Rattle.msc_answer.proofs.answering.import.Goals as goal

pub returns-in_err-page : goal.returns-in_err-page
returns-in_err-page g c =
    let p = err_from_is_err_and c.from_residual.result c.from_residual.ensures.1 in
    rw (p.1, p.2) (unprinted c.args.words c.args.text.now c.args.file.now g.O.Write.contents _ c.args.output.now c.in_err-page.ensures)

pub returns : goal.returns
returns g c =
    print_so g.O.Write.contents (PrintsImportPage c.args.words c.args.file.now c.args.text.now) (RefusesImport c.args.words.chosen c.args.text.now)
    _ _ (refl, c.in_ok-page.ensures) c.put.result _ _ c.put.ensures

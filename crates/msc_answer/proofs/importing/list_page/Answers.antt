use Rattle.std.proofs.lemmas.Result.{err_from_is_err_and}
use Rattle.msc_answer.proofs.ImportPages.{not_listed}
use Rattle.msc_answer.proofs.importing.list_page.Goals as goal

pub returns-in_err-chart : goal.returns-in_err-chart
returns-in_err-chart c x text =
    let p = err_from_is_err_and c.from_residual.result c.from_residual.ensures.1 in
    rw (p.1, p.2) (not_listed x c.args.file.now text c.args.imported _ c.in_err-chart.ensures)

use Rattle.std.proofs.lemmas.Result.{err_from_is_err_and}
use Rattle.msc_answer.proofs.ImportPages.{no_page}
use Rattle.msc_answer.specs.Importing.{wanted_with}
use Rattle.msc_answer.proofs.importing.text_page.Goals as goal

pub returns-in_err-chart : goal.returns-in_err-chart
returns-in_err-chart c given choices is =
    let p = err_from_is_err_and c.from_residual.result c.from_residual.ensures.1 in
    rw (p.1, p.2) (no_page (wanted_with c.args.words given) c.args.text.now c.args.imported.now _ c.in_err-chart.ensures)

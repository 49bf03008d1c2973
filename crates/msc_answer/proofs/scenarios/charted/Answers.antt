use Rattle.std.proofs.lemmas.Result.{err_from_is_err_and}
use Rattle.msc_answer.proofs.SurveyLemmas.{no_scenario}
use Rattle.msc_answer.proofs.scenarios.charted.Goals as goal

pub returns-in_err-chart : goal.returns-in_err-chart
returns-in_err-chart c =
    let p = err_from_is_err_and c.from_residual.result c.from_residual.ensures.1 in
    rw (p.1, p.2) (no_scenario c.args.file.now c.args.drawn _ c.in_err-chart.ensures)

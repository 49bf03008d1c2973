use Rattle.std.proofs.Common.{◌≡◌, refl}
use Rattle.std.proofs.lemmas.Result.{err_from_is_err_and}
use Rattle.msc_answer.proofs.Answered.{print_so}
use Rattle.msc_answer.proofs.ReportLemmas.{unreported}
use Rattle.msc_answer.specs.Reported.{reported_scenarios, PrintsReported}
use Rattle.msc_answer.specs.Scenarios.{RefusesScenarios}
use Rattle.msc_answer.specs.declared.ending.Status.TheVariants.{Done}
use Rattle.msc_answer.proofs.answering.report.Goals as goal

pub returns-in_err-page : goal.returns-in_err-page
returns-in_err-page g c =
    let p = err_from_is_err_and c.from_residual.result c.from_residual.ensures.1 in
    rw (p.1, p.2) (unreported g.O.Write.contents c.args.words c.args.file.now c.args.text.now _ c.args.output.now c.in_err-page.ensures)

pub returns : goal.returns
returns g c =
    print_so g.O.Write.contents (λ status printed. (status ≡ Done) × PrintsReported c.args.words c.args.file.now c.args.text.now printed) (RefusesScenarios (reported_scenarios c.args.words) c.args.text.now)
    _ _ (refl, c.in_ok-page.ensures) c.put.result _ _ c.put.ensures

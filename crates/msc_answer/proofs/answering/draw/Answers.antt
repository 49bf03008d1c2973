use Rattle.std.proofs.Common.{refl}
use Rattle.std.proofs.lemmas.Result.{err_from_is_err_and}
use Rattle.msc_answer.proofs.Answered.{print_so}
use Rattle.msc_answer.proofs.Drawings.{undrawn}
use Rattle.msc_answer.specs.Drawing.{PrintsPage, RefusesDrawn}
use Rattle.msc_answer.proofs.answering.draw.Goals as goal

pub returns-in_err-page : goal.returns-in_err-page
returns-in_err-page g c =
    let p = err_from_is_err_and c.from_residual.result c.from_residual.ensures.1 in
    rw (p.1, p.2) (undrawn g.O.Write.contents c.args.drawn c.args.draft.now c.args.source.now _ c.args.output.now c.in_err-page.ensures)

pub returns : goal.returns
returns g c =
    print_so g.O.Write.contents (PrintsPage c.args.drawn c.args.draft.now c.args.source.now) (RefusesDrawn c.args.drawn c.args.source.now)
    _ _ (refl, c.in_ok-page.ensures) c.put.result _ _ c.put.ensures

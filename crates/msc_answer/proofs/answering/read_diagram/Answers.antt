use Rattle.std.proofs.Common.{refl}
use Rattle.std.proofs.lemmas.Result.{err_from_is_err_and}
use Rattle.msc_answer.proofs.Answered.{print_so}
use Rattle.msc_answer.proofs.TextAnswers.{no_import}
use Rattle.msc_answer.specs.Answering.{Prints, Refuses}
use Rattle.msc_answer.specs.declared.tasks.Task.TheVariants as tasks
use Rattle.std.proofs.Common.{Some}
use Rattle.msc_answer.proofs.answering.read_diagram.Goals as goal

pub returns-in_err-drawing : goal.returns-in_err-drawing
returns-in_err-drawing g c = λ file.
    let p = err_from_is_err_and c.from_residual.result c.from_residual.ensures.1 in
    rw (p.1, p.2) (no_import g.O.Write.contents file c.args.text.now c.args.chosen _ c.args.output.now c.in_err-drawing.ensures)

pub returns : goal.returns
returns g c = λ file.
    let task = tasks.Read (Some c.args.chosen) in
    let drawing = c.in_ok-drawing.drawing in
    print_so g.O.Write.contents (Prints task file c.args.text.now) (Refuses task c.args.text.now)
    _ _ (drawing.imported.draft, (drawing, c.in_ok-drawing.ensures, refl), refl, c.in_ok-bytes.ensures.text) c.put.result _ _ c.put.ensures

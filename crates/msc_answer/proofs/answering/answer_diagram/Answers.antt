use Rattle.std.proofs.lemmas.Result.{err_from_is_err_and}
use Rattle.msc_answer.proofs.TextAnswers.{diagram_answered, drawn_diagram, no_import_of, unimported}
use Rattle.msc_answer.specs.Answering.{PrintsLinked, RefusesLinked}
use Rattle.msc_answer.proofs.answering.answer_diagram.Goals as goal

pub returns-in_err-drawing : goal.returns-in_err-drawing
returns-in_err-drawing g c =
    let p = err_from_is_err_and c.from_residual.result c.from_residual.ensures.1 in
    rw (p.1, p.2) (unimported g.O.Write.contents c.args.text.now (λ draft s. PrintsLinked c.args.ask c.args.links c.args.file.now s) (RefusesLinked c.args.ask c.args.links)
    c.args.chosen _ c.args.output.now c.in_err-drawing.ensures)

pub returns : goal.returns
returns g c =
    let ask = c.args.ask in let links = c.args.links in let text = c.args.text.now in
    let drawing = c.in_ok-drawing.drawing in let s = c.in_ok-chart.chart in
    diagram_answered g.O.Write.contents text (λ draft s. PrintsLinked ask links c.args.file.now s) (RefusesLinked ask links) drawing.imported.draft s c.args.chosen
    (drawn_diagram c.args.chosen text drawing c.in_ok-drawing.ensures s c.in_ok-chart.ensures) (no_import_of ask links s) c.answer_linked.result _ _ c.answer_linked.ensures

use Rattle.std.proofs.lemmas.Result.{err_from_is_err_and}
use Rattle.msc_answer.proofs.Drawings.{no_import_linked}
use Rattle.msc_answer.proofs.TextAnswers.{diagram_answered, drawn_diagram, unimported}
use Rattle.msc_answer.specs.Drawing.{PrintsLinkedPage, RefusesLinkedPage}
use Rattle.msc_answer.proofs.answering.draw_diagram.Goals as goal

pub returns-in_err-drawing : goal.returns-in_err-drawing
returns-in_err-drawing g c = λ file.
    let p = err_from_is_err_and c.from_residual.result c.from_residual.ensures.1 in
    rw (p.1, p.2) (unimported g.O.Write.contents c.args.text.now (PrintsLinkedPage c.args.drawn c.args.links) (RefusesLinkedPage c.args.drawn c.args.links)
    c.args.chosen _ c.args.output.now c.in_err-drawing.ensures)

pub returns : goal.returns
returns g c = λ file.
    let drawn = c.args.drawn in let links = c.args.links in let text = c.args.text.now in
    let drawing = c.in_ok-drawing.drawing in let s = c.in_ok-chart.chart in
    diagram_answered g.O.Write.contents text (PrintsLinkedPage drawn links) (RefusesLinkedPage drawn links) drawing.imported.draft s c.args.chosen
    (drawn_diagram c.args.chosen text drawing c.in_ok-drawing.ensures s c.in_ok-chart.ensures) (no_import_linked drawn links s) c.draw_linked.result _ _ c.draw_linked.ensures

use Rattle.std.proofs.lemmas.Result.{err_from_is_err_and}
use Rattle.msc_answer.proofs.TextAnswers.{drawn_text, no_chart_of, no_parse_of, text_answered, uncharted}
use Rattle.msc_answer.specs.Answering.{PrintsLinked, RefusesLinked}
use Rattle.msc_answer.proofs.answering.answer_text.Goals as goal

pub returns-in_err-source : goal.returns-in_err-source
returns-in_err-source g c =
    let p = err_from_is_err_and c.from_residual.result c.from_residual.ensures.1 in
    rw (p.1, p.2) (uncharted g.O.Write.contents c.args.text.now (λ draft s. PrintsLinked c.args.ask c.args.links c.args.file.now s) (RefusesLinked c.args.ask c.args.links)
    _ c.args.output.now c.in_err-source.ensures)

pub returns : goal.returns
returns g c =
    let ask = c.args.ask in let links = c.args.links in let text = c.args.text.now in
    let source = c.in_ok-source.source in let is = c.in_ok-source.ensures in let s = c.of_source-chart.result in
    text_answered g.O.Write.contents text (λ draft s. PrintsLinked ask links c.args.file.now s) (RefusesLinked ask links) is.2.draft s
    (drawn_text text source is s c.of_source-chart.ensures) (no_parse_of ask links s) (no_chart_of ask links s) c.answer_linked.result _ _ c.answer_linked.ensures

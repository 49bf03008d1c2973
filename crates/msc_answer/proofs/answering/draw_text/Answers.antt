use Rattle.std.proofs.Common.{◌∙◌, None, refl, subst}
use Rattle.std.proofs.lemmas.Result.{err_from_is_err_and}
use Rattle.msc_parser.specs.Grammar.{Tree}
use Rattle.msc_answer.proofs.Drawings.{no_fault_linked}
use Rattle.msc_answer.proofs.TextAnswers.{text_answered, uncharted, undrafted}
use Rattle.msc_answer.specs.Answering.{Answers}
use Rattle.msc_answer.specs.Drafted.{IsDrawnBy}
use Rattle.msc_answer.specs.Drawing.{PrintsLinkedPage, RefusesLinkedPage}
use Rattle.msc_report.specs.declared.fault.Fault.TheVariants.{Chart, Parse}
use Rattle.msc_answer.proofs.answering.draw_text.Goals as goal

pub returns-in_err-read : goal.returns-in_err-read
returns-in_err-read g c = λ file.
    let p = err_from_is_err_and c.from_residual.result c.from_residual.ensures.1 in
    rw (p.1, p.2) (undrafted g.O.Write.contents c.args.text.now (PrintsLinkedPage c.args.drawn c.args.links) (RefusesLinkedPage c.args.drawn c.args.links)
    _ c.args.output.now c.in_err-read.ensures)

pub returns-in_err-source : goal.returns-in_err-source
returns-in_err-source g c = λ file.
    let p = err_from_is_err_and c.from_residual-in_err-source.result c.from_residual-in_err-source.ensures.1 in
    let read = c.in_ok-read.ensures in
    rw (p.1, p.2) (uncharted g.O.Write.contents c.args.text.now (PrintsLinkedPage c.args.drawn c.args.links) (RefusesLinkedPage c.args.drawn c.args.links)
    _ c.args.output.now (rw (read.0, read.1) at c.in_err-source.ensures.told))

pub returns : goal.returns
returns g c = λ file.
    let drawn = c.args.drawn in let links = c.args.links in
    let read = c.in_ok-read.ensures in let told = c.in_ok-source.ensures.told in let s = c.of_source-chart.result in
    let by : IsDrawnBy None c.args.text.now c.in_ok-read.read.draft s = (read.2, c.in_ok-source.ensures.faultless, c.of_source-chart.ensures ∙ (rw (told.1 ∙ read.1, c.in_ok-source.ensures.drawn) refl)) in
    let says = subst (λ (t : Tree). Answers g.O.Write.contents (PrintsLinkedPage drawn links t s) (RefusesLinkedPage drawn links s) c.draw_linked.result c.args.output.now c.draw_linked.new.output)
    c.draft.ensures c.draw_linked.ensures in
    text_answered g.O.Write.contents c.args.text.now (PrintsLinkedPage drawn links) (RefusesLinkedPage drawn links) c.in_ok-read.read.draft s by
    (λ f. no_fault_linked drawn links s (Parse f)) (λ f. no_fault_linked drawn links s (Chart f)) c.draw_linked.result _ _ says

use Rattle.std.proofs.Common.{subst}
use Rattle.std.proofs.lemmas.Result.{err_from_is_err_and}
use Rattle.msc_chart.specs.declared.queue.LinkKind.{LinkKind}
use Rattle.msc_answer.proofs.Answered.{answered_under, not_linked_at}
use Rattle.msc_answer.specs.Answering.{AnswersOf}
use Rattle.msc_answer.specs.Linked.{AreLinked}
use Rattle.msc_answer.specs.declared.tasks.ChartCommand.{ChartCommand}
use Rattle.msc_answer.proofs.chart_answers.answer_linked.Goals as goal

pub returns-in_err-queues : goal.returns-in_err-queues
returns-in_err-queues g c =
    let p = err_from_is_err_and c.from_residual.result c.from_residual.ensures.1 in
    rw (p.1, p.2) (not_linked_at g.O.Write.contents c.args.ask c.args.words c.args.file.now c.args.source.now _ c.usual.ensures _ c.args.output.now c.in_err-queues.ensures)

pub returns : goal.returns
returns g c =
    let ask = c.args.ask in let words = c.args.words in let queues = c.in_ok-queues.queues in
    let linked = subst (λ (k : LinkKind). AreLinked k words c.args.source.now queues) c.usual.ensures c.in_ok-queues.ensures in
    let said = subst (λ (a : ChartCommand). AnswersOf g.O.Write.contents a c.args.file.now c.args.source.now c.answer_chart.result c.args.output.now c.answer_chart.new.output)
    c.under.ensures c.answer_chart.ensures in
    answered_under g.O.Write.contents ask words c.args.file.now c.args.source.now queues linked
    c.answer_chart.result c.args.output.now c.answer_chart.new.output said

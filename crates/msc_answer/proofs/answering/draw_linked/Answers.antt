use Rattle.std.proofs.Common.{subst}
use Rattle.std.proofs.lemmas.Result.{err_from_is_err_and}
use Rattle.msc_chart.specs.declared.queue.LinkKind.{LinkKind}
use Rattle.msc_answer.proofs.Drawings.{drawn_linked, undrawn_linked}
use Rattle.msc_answer.specs.Answering.{Answers}
use Rattle.msc_answer.specs.Drawing.{PrintsPage, RefusesDrawn}
use Rattle.msc_answer.specs.Linked.{AreLinked}
use Rattle.msc_answer.specs.declared.tasks.Drawn.{Drawn}
use Rattle.msc_answer.proofs.answering.draw_linked.Goals as goal

pub returns-in_err-queues : goal.returns-in_err-queues
returns-in_err-queues g c =
    let p = err_from_is_err_and c.from_residual.result c.from_residual.ensures.1 in
    rw (p.1, p.2) (undrawn_linked g.O.Write.contents c.args.drawn c.args.words c.args.draft.now c.args.source.now _ c.usual.ensures _ c.args.output.now c.in_err-queues.ensures)

pub returns : goal.returns
returns g c =
    let drawn = c.args.drawn in let words = c.args.words in let queues = c.in_ok-queues.queues in
    let draft = c.args.draft.now in let s = c.args.source.now in
    let linked = subst (λ (k : LinkKind). AreLinked k words s queues) c.usual.ensures c.in_ok-queues.ensures in
    let said = subst (λ (x : Drawn). Answers g.O.Write.contents (PrintsPage x draft s) (RefusesDrawn x s) c.draw.result c.args.output.now c.draw.new.output)
    c.under.ensures c.draw.ensures in
    drawn_linked g.O.Write.contents drawn words draft s queues linked c.draw.result c.args.output.now c.draw.new.output said

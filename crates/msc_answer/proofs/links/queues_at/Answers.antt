use Rattle.std.proofs.Common.{◌≡◌, subst, sym, List}
use Rattle.std.proofs.lemmas.Result.{err_from_is_err_and}
use Rattle.msc_links.specs.declared.line.LineNames.{LineNames}
use Rattle.msc_answer.specs.Linked.{AreNamesOf}
use Rattle.msc_answer.specs.Own.{said_in, OwnSaid, SaysIf, ShowsInDiagram}
use Rattle.msc_answer.proofs.Linking.{linked_by, not_linked_by}
use Rattle.msc_answer.proofs.links.queues_at.Goals as goal

pub returns-in_err-own : goal.returns-in_err-own
returns-in_err-own c =
    let text = c.args.text.now in let words = c.args.words in let spans = c.args.spans.now in
    let p = err_from_is_err_and c.from_residual.result c.from_residual.ensures.1 in
    rw (p.1, p.2) (not_linked_by (SaysIf words.own (λ (said : OwnSaid). said ≡ said_in text spans.comments)) (ShowsInDiagram text)
    (AreNamesOf text spans c.args.chart.now) c.args.usual words _ c.in_err-own.ensures)

pub returns : goal.returns
returns c =
    let text = c.args.text.now in let words = c.args.words in let spans = c.args.spans.now in
    let are = subst (λ (names : List LineNames). AreNamesOf text spans c.args.chart.now names) (sym c.as_slice.ensures.value) c.in_ok-names.ensures in
    linked_by (SaysIf words.own (λ (said : OwnSaid). said ≡ said_in text spans.comments)) (ShowsInDiagram text)
    (AreNamesOf text spans c.args.chart.now) c.args.usual words
    c.in_ok-own.own c.in_ok-own.ensures c.as_slice.result.now are c.queues_by.result c.queues_by.ensures

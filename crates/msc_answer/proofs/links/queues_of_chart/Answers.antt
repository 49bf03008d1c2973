use Rattle.std.proofs.Common.{subst, sym, List}
use Rattle.std.proofs.lemmas.Result.{err_from_is_err_and}
use Rattle.msc_links.specs.declared.line.LineNames.{LineNames}
use Rattle.msc_answer.specs.Linked.{AreNamesIn}
use Rattle.msc_answer.specs.Own.{SaysIf, SaysInChart, ShowsInChart}
use Rattle.msc_answer.proofs.Linking.{linked_by, not_linked_by}
use Rattle.msc_answer.proofs.links.queues_of_chart.Goals as goal

pub returns-in_err-own : goal.returns-in_err-own
returns-in_err-own c =
    let text = c.args.text.now in let words = c.args.words in
    let p = err_from_is_err_and c.from_residual.result c.from_residual.ensures.1 in
    rw (p.1, p.2) (not_linked_by (SaysIf words.own (SaysInChart text)) (ShowsInChart text) (AreNamesIn c.args.chart.now) c.args.usual words _ c.in_err-own.ensures)

pub returns : goal.returns
returns c =
    let text = c.args.text.now in let words = c.args.words in
    let are = subst (λ (names : List LineNames). AreNamesIn c.args.chart.now names) (sym c.as_slice.ensures.value) c.in_ok-names.ensures in
    linked_by (SaysIf words.own (SaysInChart text)) (ShowsInChart text) (AreNamesIn c.args.chart.now) c.args.usual words
    c.in_ok-own.own c.in_ok-own.ensures c.as_slice.result.now are c.queues_by.result c.queues_by.ensures

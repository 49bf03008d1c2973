use Rattle.std.proofs.Common.{List, Some, subst}
use Rattle.msc_chart.specs.Drawings.{Drawing}
use Rattle.msc_mermaid.specs.declared.statement.Span.{Span}
use Rattle.msc_answer.specs.Importing.{first_reading, IsFirstOwn}
use Rattle.msc_answer.specs.Linked.{AreNamesOf}
use Rattle.msc_answer.proofs.FirstReadings.{comment_by}
use Rattle.msc_answer.proofs.importing.comment_of.Goals as goal

pub returns : goal.returns
returns c =
    let text = c.args.text.now in let is = c.args.imported.now in let own = c.in-Some.own in
    let found = rw c.in-Some.is at c.in_ok-own.ensures in
    let first = subst (λ (l : List Span). IsFirstOwn (first_reading text l) (Some own)) c.as_slice.ensures found in
    let are = subst (λ (d : Drawing). AreNamesOf text is.spans d c.in_ok-names.names.items) c.in_ok-chart.ensures.1 c.in_ok-names.ensures in
    let said = rw c.as_slice-2.ensures.value at c.in_ok-comment.ensures in
    comment_by text is (first_reading text is.spans.comments) own first c.in_ok-names.names.items are c.in_ok-comment.comment said

use Rattle.std.proofs.Common.{◌≡◌, List, subst}
use Rattle.msc_mermaid.specs.declared.statement.Span.{Span}
use Rattle.msc_answer.specs.Own.{said_in, IsOwnBy, OwnSaid, ShowsInDiagram}
use Rattle.msc_answer.proofs.own.own_of_diagram.Goals as goal

pub returns-then-asked : goal.returns-then-asked
returns-then-asked c =
    let text = c.args.text.now in
    rw c.if-asked.true
    (subst (λ (l : List Span). IsOwnBy (λ (said : OwnSaid). said ≡ said_in text l) (ShowsInDiagram text) c.own_in_diagram.result)
    c.as_slice.ensures c.own_in_diagram.ensures)

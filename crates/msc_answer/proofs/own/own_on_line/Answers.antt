use Rattle.std.proofs.Common.{◌≡◌, ℕ, List, ap, drop, ◌∙◌}
use Rattle.msc_links.specs.Comments.{chart_reading_of}
use Rattle.msc_answer.specs.Own.{said_at, said_on_line, OwnSaid, ShowsInDiagram}
use Rattle.msc_answer.proofs.OwnLemmas.{own_by}
use Rattle.msc_answer.proofs.own.own_on_line.Goals as goal

pub returns : goal.returns
returns c =
    let text = c.args.text.now in let at = c.args.comment.first in
    let reading = chart_reading_of c.after_signs.result.now in
    let said = ap (λ (b : List ℕ). said_at at (chart_reading_of b)) (c.after_signs.ensures ∙ ap (drop 2) c.bytes_at.ensures) in
    own_by (λ (s : OwnSaid). s ≡ said_on_line text c.args.comment) (ShowsInDiagram text) at
    c.in_ok-place_in_diagram.field-0 c.in_ok-place_in_diagram.ensures reading said
    c.own_at.result (c.own_at.ensures reading c.own_queues_of_chart-answer.ensures)

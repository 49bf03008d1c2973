use Rattle.msc_links.specs.Comments.{chart_reading_of}
use Rattle.msc_answer.specs.Own.{SaysInChart, ShowsInChart}
use Rattle.msc_answer.proofs.OwnLemmas.{own_by, said_in_chart}
use Rattle.msc_answer.proofs.own.own_in_chart.Goals as goal

pub returns : goal.returns
returns c =
    let text = c.args.text.now in let comment = c.in-Some.comment in
    let reading = chart_reading_of comment.bytes.now in
    let said = rw c.in-Some.is at (said_in_chart text c.in_ok-comment.field-0 c.in_ok-comment.ensures) in
    own_by (SaysInChart text) (ShowsInChart text) comment.at c.place_in_chart.result c.place_in_chart.ensures reading said
    c.own_at.result (c.own_at.ensures reading c.own_queues_of_chart-answer.ensures)

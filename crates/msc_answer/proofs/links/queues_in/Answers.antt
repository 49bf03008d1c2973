use Rattle.std.proofs.Common.{sym}
use Rattle.msc_answer.proofs.Linking.{linked_in_diagram, linked_in_text}
use Rattle.msc_answer.proofs.links.queues_in.Goals as goal

pub returns-in-None : goal.returns-in-None
returns-in-None c =
    let none = rw c.in-None.is at c.imported.ensures in
    linked_in_text c.args.usual c.args.words c.args.source.now _ _ c.text-text.ensures c.chart-chart.ensures (sym none) _ c.queues_of_chart.ensures

pub returns-in-Some : goal.returns-in-Some
returns-in-Some c =
    let some = rw c.in-Some.is at c.imported.ensures in
    linked_in_diagram c.args.usual c.args.words c.args.source.now _ _ c.text-text.ensures c.chart-chart.ensures _ (sym some) _ c.queues_at.ensures

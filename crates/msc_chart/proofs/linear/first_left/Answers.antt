use Rattle.msc_chart.proofs.SortingLemmas.{none-next}
use Rattle.msc_chart.proofs.ListLemmas.{clash}
use Rattle.msc_chart.proofs.linear.first_left.Goals as goal

pub loop-x-preserved : goal.loop-x-preserved
loop-x-preserved c =
    none-next c.args.events.now c.args.marks.now c.args.i c.loop-x.x c.loop-x.invariant
    (λ u. clash (c.is_left.ensures.1 u) c.if-is_left.false)

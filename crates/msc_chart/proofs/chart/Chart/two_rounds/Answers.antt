use Rattle.std.proofs.Common.{sym, subst, ◌∙◌}
use Rattle.msc_chart.specs.Building.{IsBuilt}
use Rattle.msc_chart.specs.Drawings.{Drawing}
use Rattle.msc_chart.proofs.Lawful.{same_drawing}
use Rattle.msc_chart.proofs.UnrolledAccepted.{unrolled_built}
use Rattle.msc_chart.proofs.chart.Chart.two_rounds.Goals as goal

pub invariant_of-result : goal.invariant_of-result
invariant_of-result c =
    let order = c.in_ok-order.order.items in
    let same = same_drawing (c.in_ok-name.ensures ∙ c.name.ensures) c.in_ok-instances.ensures c.in_ok-events.ensures c.in_ok-messages.ensures c.in_ok-actions.ensures in
    subst (λ (d : Drawing). IsBuilt d order) (sym same)
    (unrolled_built c.args.self.now c.facts.ensures c.in_ok-refuse_long.ensures.short order c.in_ok-order.ensures)

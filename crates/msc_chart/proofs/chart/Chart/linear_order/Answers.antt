use Rattle.std.proofs.Common.{ap}
use Rattle.msc_chart.proofs.chart.Chart.linear_order.Goals as goal

pub returns : goal.returns
returns c = rw (← ap (λ d. d.events) c.self.view_is, c.as_slice.ensures.value) c.self.invariant.linear

use Rattle.std.proofs.Common.{length, ap, arith}
use Rattle.msc_chart.proofs.chart.Chart.events.Goals as goal

pub returns-clause-number : goal.returns-clause-number
returns-clause-number c = omega (arith, ap (λ d. length d.events) c.self.view_is)

use Rattle.std.proofs.Common.{ap}
use Rattle.msc_chart.proofs.chart.Chart.messages.Goals as goal

pub returns-clause-number : goal.returns-clause-number
returns-clause-number c = cc (ap (λ d. d.messages) c.self.view_is)

use Rattle.std.proofs.Common.{length, ap, ◌∙◌}
use Rattle.msc_chart.proofs.chart.Chart.instances.Goals as goal

pub returns-clause-number : goal.returns-clause-number
returns-clause-number c = ap length c.as_slice.ensures ∙ ap (λ d. length d.instances) c.self.view_is

use Rattle.std.proofs.Common.{Some, refl, sym, ap, ◌∙◌}
use Rattle.msc_chart.proofs.chart.Chart.partner.Goals as goal

pub returns-then-is_local : goal.returns-then-is_local
returns-then-is_local c = rw (sym c.is_local.ensures ∙ c.if-is_local.true) refl

pub returns : goal.returns
returns c = rw (sym c.is_local.ensures ∙ c.if-is_local.false) (ap Some c.other_end.ensures.value)

use Rattle.std.proofs.Common.{◌∙◌, ap, sym}
use Rattle.msc_chart.specs.Charts.{line}
use Rattle.msc_chart.specs.Orders.{receiver_at}
use Rattle.msc_chart.proofs.wiring.Wiring.receiver.Goals as goal

pub returns-then-not-is_output-clause-value : goal.returns-then-not-is_output-clause-value
unfolding receiver_at
returns-then-not-is_output-clause-value c =
    rw (sym c.is_output.ensures ∙ c.if-not-is_output.true) c.instance_of.ensures

pub returns-else-not-is_output-clause-value : goal.returns-else-not-is_output-clause-value
unfolding receiver_at
returns-else-not-is_output-clause-value c =
    rw (sym c.is_output.ensures ∙ c.if-not-is_output.false)
    (c.instance_of-else-not-is_output.ensures ∙ ap (line c.args.self.now.chart.now.events) c.other_end.ensures.value)

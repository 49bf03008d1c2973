use Rattle.std.proofs.Common.{◌∙◌, refl}
use Rattle.msc_chart.specs.Orders.{queue_of}
use Rattle.msc_chart.proofs.chart.Chart.queue.Goals as goal

pub returns : goal.returns
unfolding queue_of
returns c = c.queue_number.ensures
    ∙ rw (c.instances.ensures.number, c.sender.ensures.value, c.receiver.ensures.value) refl

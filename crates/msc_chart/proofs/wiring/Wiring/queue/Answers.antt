use Rattle.std.proofs.Common.{◌∙◌, refl}
use Rattle.msc_chart.specs.Orders.{queue}
use Rattle.msc_chart.proofs.wiring.Wiring.queue.Goals as goal

pub returns : goal.returns
unfolding queue
returns c = c.queue_number.ensures
    ∙ rw (c.instances-instances.ensures.number, c.sender.ensures.value, c.receiver.ensures.value, c.message_of-m.ensures.value) refl

use Rattle.msc_order.proofs.queueing.take_input.Goals as goal

pub returns : goal.returns
returns c = rw (← c.other_end-input.ensures.value, ← c.events-events.ensures.number) search

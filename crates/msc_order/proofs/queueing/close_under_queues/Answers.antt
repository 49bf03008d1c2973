use Rattle.std.proofs.Common.{sym, rules}
use Rattle.msc_chart.proofs.Drawn.{output_parts, output_not_local}
use Rattle.msc_order.proofs.queueing.close_under_queues.Goals as goal

pub add_queues-requires-clause-blank : goal.add_queues-requires-clause-blank
add_queues-requires-clause-blank c x y = rw (c.deref_mut.ensures.value, sym c.events-events.ensures.number) (c.in_ok-masks.ensures.none x y)

pub add_queues-requires-clause-masks : goal.add_queues-requires-clause-masks
add_queues-requires-clause-masks c e o =
    let events = c.args.wiring.now.chart.now.events in
    let below = c.queue_count.ensures.past e (output_parts events e o).0 (output_not_local events e o) in
    search rules

pub add_queues-requires-clause-caused : goal.add_queues-requires-clause-caused
add_queues-requires-clause-caused c = c.in_ok-close.ensures
